-- What is pending of a connection after a call, by its look and by the command.
use Rattle.std.proofs.Common.{◌≡◌, ℕ, ◌≤◌, Bool, true, false, List, [], ◌∷◌, ◌++◌, if◌then◌else◌, sym, refl, ap, ◌∙◌, subst, arith}
use Rattle.std.specs.Prelude.{Result, Ok, Err, is_ok, Option, IfOk, OnErr}
use Rattle.std.proofs.lemmas.List.Sums.{fold-append}
use Rattle.ob_types.specs.Traits.{is_write}
use Rattle.ob_types.specs.declared.command.Command.{Command}
use Rattle.ob_types.specs.declared.command.Command.TheVariants.{Close, FailFlushed, RemoveBytes}
use Rattle.ob_types.specs.declared.promise.Cause.{Cause}
use Rattle.ob_types.specs.declared.promise.PromiseState.{PromiseState}
use Rattle.ob_types.specs.declared.refusal.Refusal.{Refusal}
use Rattle.ob_types.specs.declared.reply.Reply.{Reply}
use Rattle.ob_seq.specs.Effect.{effect, rows_after}
use Rattle.ob_seq.specs.Rows.{Settings}
use Rattle.ob_seq.proofs.Rows.EachRow.{effect_turns, total_turns}
use Rattle.ob_connection.specs.Calls.{Call}
use Rattle.ob_connection.specs.Connected.{Connected, StandsForSome}
use Rattle.ob_connection.specs.Obeying.{GivesUp, as_result, Obeys, taken_reply}
use Rattle.ob_connection.specs.Connected.{Shows}
use Rattle.ob_connection.specs.Sending.{Sends, SendsInTurns}
use Rattle.ob_connection.specs.declared.connection.sending.SendFault.{SendFault}
use Rattle.ob_connection.specs.declared.connection.sending.Sent.{Sent}
use Rattle.ob_connection.specs.declared.replies.SentTurns.{SentTurns}
use Rattle.ob_connection.specs.declared.replies.Taken.{Taken}
use Rattle.ob_connection.specs.declared.look.Look.{Look}
use Rattle.ob_covered.specs.Budgeted.{pending, IsPending, IsWithin}

-- a look shows what is pending
pub shown : (connection : Connected) (look : Look) → Shows connection look → IsPending connection look.total
shown connection look shows commands stands = ap (λ l. l.total) (shows commands stands)

-- what is pending is covered by what is no less
pub covered : (connection : Connected) (now held : ℕ) → IsPending connection now → now ≤ held → IsWithin connection held
covered connection now held is le commands stands = omega (arith, is commands stands, le)

-- a command that is no write, accepted or not, leaves no more pending
falls_if : (settings : Settings) (commands : List Command) (command : Command) → is_write command ≡ false → (ok : Bool)
    → pending settings (if ok then commands ++ command ∷ [] else commands) ≤ pending settings commands
falls_if settings commands command other true =
    let rows = rows_after settings.estimate commands in
    let more : rows_after settings.estimate (commands ++ command ∷ []) ≡ effect settings.estimate rows command =
    fold-append (effect settings.estimate) [] commands (command ∷ []) in
    rw more (total_turns ⊥ rows (effect settings.estimate rows command)
    (effect_turns ⊥ settings.estimate rows command (λ never. absurd never) other))
falls_if settings commands command other false = omega arith

pub falls : {A : Type 0} (old new : Connected) (command : Command) (tell : List PromiseState → A → Reply)
    (result : Result A Refusal) (held now : ℕ) → is_write command ≡ false → StandsForSome old → IsWithin old held
    → Obeys old command tell result new → IsPending new now → now ≤ held
falls old new command tell result held now other some within obeys is =
    let settings : old.unsent.settings ≡ new.unsent.settings = sym obeys.settings in
    let fell = falls_if old.unsent.settings some.0 command other (is_ok result) in
    let after : now ≡ pending old.unsent.settings (if is_ok result then some.0 ++ command ∷ [] else some.0) =
    is _ (obeys.stands some.0 some.1)
    ∙ ap (λ s. pending s (if is_ok result then some.0 ++ command ∷ [] else some.0)) obeys.settings in
    omega (arith, after, fell, within some.0 some.1)

-- a command that is no write, after one history
falls_one : {A : Type 0} (old new : Connected) (command : Command) (tell : List PromiseState → A → Reply)
    (result : Result A Refusal) (held now : ℕ) → is_write command ≡ false → (some : StandsForSome old)
    → pending old.unsent.settings some.0 ≤ held → Obeys old command tell result new → IsPending new now → now ≤ held
falls_one old new command tell result held now other some within obeys is =
    let fell = falls_if old.unsent.settings some.0 command other (is_ok result) in
    let after : now ≡ pending old.unsent.settings (if is_ok result then some.0 ++ command ∷ [] else some.0) =
    is _ (obeys.stands some.0 some.1)
    ∙ ap (λ s. pending s (if is_ok result then some.0 ++ command ∷ [] else some.0)) obeys.settings in
    omega (arith, after, fell, within)

-- a connection that stayed as it was
stays : (old new : Connected) (held now : ℕ) → StandsForSome old → IsWithin old held → new ≡ old → IsPending new now → now ≤ held
stays old new held now some within same is =
    let here : IsPending old now = subst (λ c. IsPending c now) same is in
    omega (arith, here some.0 some.1, within some.0 some.1)

pub falls_given_up : (old new : Connected) (cause : Cause) (result : Result Taken Refusal) (held now : ℕ) → StandsForSome old
    → IsWithin old held → IfOk result (λ taken. GivesUp old cause taken new) → OnErr result (new ≡ old) → IsPending new now
    → now ≤ held
falls_given_up old new cause (Ok taken) held now some within gives kept is =
    let fails = FailFlushed cause false in
    let more = some.0 ++ fails ∷ [] in
    let fell = falls_if old.unsent.settings some.0 fails refl true in
    let between : pending gives.between.unsent.settings more ≡ pending old.unsent.settings more =
    ap (λ s. pending s more) gives.fails.settings in
    falls_one gives.between new (Close cause) taken_reply (as_result gives.closed) held now refl
    (more, gives.fails.stands some.0 some.1) (omega (arith, between, fell, within some.0 some.1)) gives.closes is
falls_given_up old new cause (Err refusal) held now some within gives kept is = stays old new held now some within kept is

pub falls_once : (max_count max_bytes : ℕ) (before after : Option (List ℕ)) (old new : Connected)
    (result : Result Sent SendFault) (held now : ℕ) → StandsForSome old → IsWithin old held
    → IfOk result (λ done. Sends max_count max_bytes old before done new after) → OnErr result (new ≡ old)
    → IsPending new now → now ≤ held
falls_once max_count max_bytes before after old new (Ok done) held now some within sends kept is =
    falls old new (RemoveBytes done.bytes) taken_reply (as_result done.taken) held now refl some within sends.obeys is
falls_once max_count max_bytes before after old new (Err fault) held now some within sends kept is = stays old new held now some within kept is

pub falls_in_turns : (max_turns max_bytes : ℕ) (before after : Option (List ℕ)) (calls_before calls_after : Option (List Call))
    (old new : Connected) (result : Result SentTurns SendFault) (held now : ℕ) → StandsForSome old → IsWithin old held
    → IfOk result (λ done. SendsInTurns max_turns max_bytes old before calls_before done new after calls_after)
    → OnErr result (new ≡ old) → IsPending new now → now ≤ held
falls_in_turns max_turns max_bytes before after calls_before calls_after old new (Ok done) held now some within sends kept is =
    falls old new (RemoveBytes done.bytes) taken_reply (as_result done.taken) held now refl some within sends.obeys is
falls_in_turns max_turns max_bytes before after calls_before calls_after old new (Err fault) held now some within sends kept is = stays old new held now some within kept is
