-- When a connection accepts a message while there is memory.
use Rattle.std.proofs.Common.{◌≡◌, ℕ, ◌+◌, ◌-◌, Bool, true, false, List, [], ◌∷◌, subst, ◌||◌, if◌then◌else◌, nat_lt, refl, sym, ap, ◌∙◌, arith}
use Rattle.std.proofs.Common.{Option, Some, None, Result, Ok, Err, IfErr, is_ok, IsOk}
use Rattle.ob_types.specs.Limits.{greatest_pending_size}
use Rattle.ob_types.specs.PendingSize.{counted_bytes, is_long_region, is_oversize, pending_size_of, readable_bytes}
use Rattle.ob_types.specs.declared.command.Command.{Command}
use Rattle.ob_types.specs.declared.command.Command.TheVariants.{Flush, Write}
use Rattle.ob_types.specs.declared.estimate.Estimate.{Estimate}
use Rattle.ob_types.specs.declared.message.Message.{Message}
use Rattle.ob_types.specs.declared.promise.PromiseState.{PromiseState}
use Rattle.ob_types.specs.declared.refusal.Refusal.{Refusal}
use Rattle.ob_types.specs.declared.refusal.Refusal.TheVariants.{Closed, Oversize, TooMuch}
use Rattle.ob_types.specs.declared.reply.Reply.{Reply}
use Rattle.ob_seq.specs.Answer.{is_too_much_within, reply_of, unless_refused}
use Rattle.ob_seq.specs.Effect.{rows_after}
use Rattle.ob_seq.specs.State.{is_closed}
use Rattle.ob_connection.specs.Connected.{Connected, StandsForSome, connection_limit}
use Rattle.ob_connection.specs.Connected.{Refuses}
use Rattle.ob_connection.specs.Obeying.{Accepts, Obeys}
use Rattle.ob_covered.specs.Cover.{CoverValue}
use Rattle.ob_shared_connection.specs.Values.{Adds, CountsAs, HoldsFor, Passes, PassesRoom, held_by}

-- a connection that obeyed accepts
pub accepts_obeyed : {A : Type 0} (old new : Connected) (command : Command) (tell : List PromiseState → A → Reply)
    (result : Result A Refusal) → IsOk result → Obeys old command tell result new → Accepts old command
accepts_obeyed old new command tell (Ok answer) ok obeys commands stands =
    ap (λ (told : Result Reply Refusal). is_ok told) ((obeys.answer (λ never. cc never)).says commands stands)
accepts_obeyed old new command tell (Err refusal) ok obeys commands stands = absurd (cc ok)

-- a connection that refuses nothing accepts
pub accepts_unrefused : (connected : Connected) (command : Command) → Refuses connected command None
    → Accepts connected command
accepts_unrefused connected command refuses commands stands =
    ap (λ (refusal : Option Refusal).
    is_ok (unless_refused refusal (reply_of connected.unsent.settings commands command))) (refuses commands stands)

-- one that refuses does not accept
pub refuses_accepted : (connected : Connected) (command : Command) (refusal : Refusal) → StandsForSome connected
    → Refuses connected command (Some refusal) → Accepts connected command → ⊥
refuses_accepted connected command refusal some refuses accepts =
    cc (accepts some.0 some.1 ∙ ap (λ (first : Option Refusal).
    is_ok (unless_refused first (reply_of connected.unsent.settings some.0 command))) (sym (refuses some.0 some.1)))

-- the first refusal of a write, by whether it is closed, oversize and too much
abbrev refusal_by : Bool → Bool → Bool → Option Refusal
refusal_by closed over much =
    if closed then Some Closed else (if over then Some Oversize else (if much then Some TooMuch else None))

same_for_all : (refusal : Option Refusal) (first second : Reply)
    → is_ok (unless_refused refusal first) ≡ is_ok (unless_refused refusal second)
same_for_all None first second = refl
same_for_all (Some refusal) first second = refl

-- a message is accepted as any other is that counts as many bytes, and neither is oversize
accepts_alike : (connected : Connected) (message other : Message)
    → is_oversize connected.unsent.settings.estimate message ≡ is_oversize connected.unsent.settings.estimate other
    → counted_bytes connected.unsent.settings.estimate message ≡ counted_bytes connected.unsent.settings.estimate other
    → Accepts connected (Write message) → Accepts connected (Write other)
accepts_alike connected message other over size accepts commands stands =
    let settings = connected.unsent.settings in
    let rows = rows_after settings.estimate commands in
    accepts commands stands
    ∙ ap (λ (test : Bool).
    is_ok (unless_refused (refusal_by (is_closed commands) test
    (is_too_much_within connection_limit settings.estimate rows (counted_bytes settings.estimate message)))
    (reply_of settings commands (Write message)))) over
    ∙ ap (λ (count : ℕ).
    is_ok (unless_refused (refusal_by (is_closed commands) (is_oversize settings.estimate other)
    (is_too_much_within connection_limit settings.estimate rows count)) (reply_of settings commands (Write message)))) size
    ∙ same_for_all (refusal_by (is_closed commands) (is_oversize settings.estimate other)
    (is_too_much_within connection_limit settings.estimate rows (counted_bytes settings.estimate other)))
    (reply_of settings commands (Write message)) (reply_of settings commands (Write other))

-- neither is a region that is too long
pub accepts_as : (connected : Connected) (message other : Message) → is_long_region message ≡ false
    → is_long_region other ≡ false
    → counted_bytes connected.unsent.settings.estimate message ≡ counted_bytes connected.unsent.settings.estimate other
    → Accepts connected (Write message) → Accepts connected (Write other)
accepts_as connected message other short short_too size accepts =
    accepts_alike connected message other
    (ap (λ (long : Bool). nat_lt greatest_pending_size (counted_bytes connected.unsent.settings.estimate message) || long) short
    ∙ ap (λ (count : ℕ). nat_lt greatest_pending_size count || false) size
    ∙ ap (λ (long : Bool). nat_lt greatest_pending_size (counted_bytes connected.unsent.settings.estimate other) || long)
    (sym short_too)) size accepts

-- of a message that is not oversize the size is what it counts, and it is no region that is too long
test_of : (over : Bool) (size counted : ℕ) (fault : Refusal) → Ok size ≡ (if over then Err fault else Ok counted)
    → (over ≡ false) × (size ≡ counted)
test_of true size counted fault is = absurd (cc is)
test_of false size counted fault is = (refl, cc is)

no_second : (first second : Bool) → (first || second) ≡ false → second ≡ false
no_second true second is = absurd (cc is)
no_second false second is = is

pub sized : (estimate : Estimate) (message : Message) (size : ℕ) → Ok size ≡ pending_size_of estimate message
    → (size ≡ counted_bytes estimate message) × (is_long_region message ≡ false)
sized estimate message size is =
    let both = test_of (is_oversize estimate message) size (counted_bytes estimate message) Oversize is in (
      both.1,
      no_second (nat_lt greatest_pending_size (counted_bytes estimate message)) (is_long_region message) both.0,
    )

pub counts_as : (connected : Connected) (estimate : Estimate) (message : Message) (size : ℕ)
    → estimate ≡ connected.unsent.settings.estimate → Ok size ≡ pending_size_of estimate message
    → CountsAs connected (size - estimate.overhead) message
counts_as connected estimate message size same is =
    let both = sized estimate message size is in
    let parts : counted_bytes estimate message ≡ readable_bytes estimate message + estimate.overhead = refl in
    let counts : counted_bytes estimate message ≡ (size - estimate.overhead) + estimate.overhead =
    omega (arith, both.0, parts) in record {
      counts = ap (λ (e : Estimate). counted_bytes e message) (sym same) ∙ counts
          ∙ ap (λ (e : Estimate). (size - estimate.overhead) + e.overhead) same;
      short = both.1;
    }

-- a write passes a room if what its message counts does
pub passes_room : (connected : Connected) (message : Message) (bytes room : ℕ) → Accepts connected (Write message)
    → bytes ≡ counted_bytes connected.unsent.settings.estimate message → Passes connected bytes room
    → PassesRoom connected (Write message ∷ []) (Some room)
passes_room connected message bytes room accepts is passes =
    let counted : bytes ≡ counted_bytes connected.unsent.settings.estimate message + 0 = omega (arith, is) in record {
      accepted = accepts;
      bytes = room;
      room_is = refl;
      passes = subst (λ n. Passes connected n room) counted passes;
    }

-- and so does it with a flush behind it
pub passes_flushed : (connected : Connected) (message : Message) (room : Option ℕ)
    → PassesRoom connected (Write message ∷ []) room → PassesRoom connected (Write message ∷ Flush ∷ []) room
passes_flushed connected message room lacks =
    let estimate = connected.unsent.settings.estimate in
    let same : counted_bytes estimate message + 0 ≡ counted_bytes estimate message + (0 + 0) = omega arith in record {
      accepted = lacks.accepted;
      bytes = lacks.bytes;
      room_is = lacks.room_is;
      passes = subst (λ n. Passes connected n lacks.bytes) same lacks.passes;
    }

-- a seat that holds what commands add does not lack it
held_passes : (connected : Connected) (commands : List Command) (bytes : ℕ) (cover : Option CoverValue)
    → Adds connected commands bytes → HoldsFor connected bytes cover → PassesRoom connected commands (held_by cover) → ⊥
held_passes connected commands bytes None adds holds lacks = cc lacks.room_is
held_passes connected commands bytes (Some cover) adds holds lacks =
    let room : cover.seat.account.held ≡ lacks.bytes = cc lacks.room_is in
    let passes = lacks.passes in
    omega (arith, room, passes.more, adds.written lacks.accepted, holds passes.now passes.is_pending)

-- so no fault of theirs says so
pub always_covers : {A E : Type 0} (Uncovered : E → Type 0) (connected : Connected) (commands : List Command) (bytes : ℕ)
    (cover : Option CoverValue) (result : Result A E) → Adds connected commands bytes → HoldsFor connected bytes cover
    → IfErr result (λ fault. Uncovered fault → PassesRoom connected commands (held_by cover))
    → IfErr result (λ fault. ¬ Uncovered fault)
always_covers Uncovered connected commands bytes cover (Ok answer) adds holds lacks = tt
always_covers Uncovered connected commands bytes cover (Err fault) adds holds lacks =
    λ uncovered. held_passes connected commands bytes cover adds holds (lacks uncovered)
