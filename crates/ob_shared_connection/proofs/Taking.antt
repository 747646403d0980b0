-- A removal of what was in front is accepted.
use Rattle.std.proofs.Common.{◌≡◌, ◌≤◌, ◌<◌, ℕ, true, false, List, ◌++◌, length, min, max, refl, sym, ap, ◌∙◌, subst, arith}
use Rattle.std.proofs.Common.{Result, Ok, Err, IfOk, IsOk, is_ok}
use Rattle.std.proofs.lemmas.List.{map-append}
use Rattle.std.proofs.lemmas.List.Folds.{list_all-map}
use Rattle.std.proofs.lemmas.List.Sums.{list_all-from_AllPass, sum_by-take-le}
use Rattle.std.specs.List.{list_all}
use Rattle.ob_types.specs.declared.command.Command.{Command}
use Rattle.ob_types.specs.declared.command.Command.TheVariants.{RemoveBytes}
use Rattle.ob_types.specs.declared.promise.Outcome.TheVariants.{Success}
use Rattle.ob_types.specs.declared.refusal.Refusal.{Refusal}
use Rattle.ob_types.specs.declared.reply.Reply.{Reply}
use Rattle.ob_seq.specs.Looks.{gathered_after, with_bytes}
use Rattle.ob_seq.specs.Effect.{bytes_in, pieces_within}
use Rattle.ob_seq.specs.Rows.{Settings}
use Rattle.ob_seq.proofs.Inside.Gathered.{all_bytes, length_of_concat}
use Rattle.ob_connection.specs.Connected.{connection_accepts, connection_accepts_all}
use Rattle.ob_connection.specs.Connected.{AreGathered}
use Rattle.ob_connection.specs.Obeying.{promises_after, taken_reply, told_by}
use Rattle.ob_connection.specs.declared.replies.Taken.{Taken}
use Rattle.ob_shared_connection.specs.Calls.{IsLock, Makes, Taking, UnderLock, Gathers, IsLook}
use Rattle.ob_shared_connection.specs.Values.{commands_of, leaves_flushed, HandleValue, Held, IsLeft}
use Rattle.ob_shared_connection.specs.Sending.{Accepts, AreInFront, blocks_after}
use Rattle.ob_shared_connection.specs.declared.call.Call.{Call}
use Rattle.ob_shared_connection.proofs.Staying.{bytes_stay}

-- an answer that is accepted is no refusal
accepted_is_ok : (tell : Taken → Reply) (result : Result Taken Refusal) (answer : Result Reply Refusal)
    → told_by tell result ≡ answer → is_ok answer ≡ true → IsOk result
accepted_is_ok tell (Ok taken) answer is accepted = refl
accepted_is_ok tell (Err refusal) answer is accepted = absurd (no_answer (ap is_ok is ∙ accepted))
  where
    no_answer : false ≡ true → ⊥
    no_answer never = cc never

-- what was in front when the lock was let go can be taken away when it is taken again
pub accepted_if_in_front : (old : HandleValue) (n : ℕ) (before : Held) → old.sends ≡ true → IsLock old before
    → AreInFront old n → Accepts before (RemoveBytes n)
accepted_if_in_front old n before sends locks in_front =
    let between = commands_of locks.between in
    let seen : commands_of before.handle.seen ≡ commands_of old.seen ++ between =
    ap (λ (handle : HandleValue). commands_of handle.seen) locks.sees
    ∙ map-append (λ (call : Call). call.command) old.seen locks.between in
    let opened : before.handle.settings ≡ old.settings = ap (λ (handle : HandleValue). handle.settings) locks.sees in
    let settings : before.connected.unsent.settings ≡ old.settings = locks.left.settings_are ∙ opened in
    let stands = locks.left.stands in
    let accepted : connection_accepts_all old.settings (commands_of old.seen ++ between) ≡ true =
    subst (λ (commands : List Command). connection_accepts_all old.settings commands ≡ true) seen
    (subst (λ (opened : Settings). connection_accepts_all opened (commands_of before.handle.seen) ≡ true) settings
    stands.as_buffer.accepted) in
    let leaves : list_all leaves_flushed between ≡ true =
    list_all-map leaves_flushed (λ (call : Call). call.command) locks.between
    ∙ list_all-from_AllPass (λ (call : Call). leaves_flushed call.command) locks.between
    (locks.untouched sends) in
    let stays = bytes_stay old.settings (commands_of old.seen) between accepted leaves in_front.some in
    subst (λ (settings_of : Settings).
    connection_accepts settings_of (commands_of before.handle.seen) (RemoveBytes n) ≡ true) (sym opened)
    (subst (λ (commands : List Command). connection_accepts old.settings commands (RemoveBytes n) ≡ true) (sym seen)
    (stays.accepted n in_front.enough))

pub taken_if_in_front : (old : HandleValue) (n : ℕ) (result : Result Taken Refusal) (new : HandleValue) → old.sends ≡ true
    → UnderLock old (Makes (Taking Success) (RemoveBytes n) result) new → AreInFront old n → IsOk result
taken_if_in_front old n result new sends under in_front =
    let before = under.before in
    let stands = under.locks.left.stands in
    let now : connection_accepts before.connected.unsent.settings (commands_of before.handle.seen) (RemoveBytes n) ≡ true =
    subst (λ (opened : Settings).
    connection_accepts opened (commands_of before.handle.seen) (RemoveBytes n) ≡ true)
    (sym under.locks.left.settings_are) (accepted_if_in_front old n before sends under.locks in_front) in
    accepted_is_ok
    (taken_reply (promises_after before.connected.unsent.settings (commands_of before.handle.seen))) result _
    ((under.does.does.obeys.answer under.does.does.frugal).says (commands_of before.handle.seen) stands) now

-- what is gathered are bytes in front
pub gathered_in_front : (settings : Settings) (commands : List Command) (max_count max_bytes : ℕ)
    → bytes_in (gathered_after settings commands max_count max_bytes) ≤ bytes_in (blocks_after settings commands)
gathered_in_front settings commands max_count max_bytes =
    let blocks = blocks_after settings commands in
    let some = with_bytes blocks in
    let count = min max_count (max 1 (pieces_within max_bytes some)) in
    let first = sum_by-take-le (λ (block : List ℕ). length block) some count in
    let same : bytes_in some ≡ bytes_in blocks =
    sym (length_of_concat some) ∙ ap length (all_bytes blocks) ∙ length_of_concat blocks in
    omega arith

pub in_front_if_gathered : (max_count max_bytes : ℕ) (blocks : List (List ℕ)) (before : Held)
    → IsLeft before → AreGathered before.connected max_count max_bytes blocks → 0 < bytes_in blocks
    → AreInFront before.handle (bytes_in blocks)
in_front_if_gathered max_count max_bytes blocks before left gathered some =
    let commands = commands_of before.handle.seen in
    let is : blocks ≡ gathered_after before.handle.settings commands max_count max_bytes =
    gathered commands left.stands
    ∙ ap (λ (opened : Settings). gathered_after opened commands max_count max_bytes) left.settings_are in
    let few = gathered_in_front before.handle.settings commands max_count max_bytes in
    let bytes = ap bytes_in is in
    record { some = omega arith; enough = omega arith }

pub gathered_under_lock : {A : Type 0} (blocks_of : A → List (List ℕ)) (max_count max_bytes : ℕ) (old : HandleValue)
    (result : Result A Refusal) (new : HandleValue)
    → UnderLock old (IsLook (Gathers blocks_of max_count max_bytes) result) new
    → IfOk result (λ blocks. 0 < bytes_in (blocks_of blocks) → AreInFront new (bytes_in (blocks_of blocks)))
gathered_under_lock blocks_of max_count max_bytes old (Ok blocks) new under = λ some.
    let before = under.before in
    subst (λ (handle : HandleValue). AreInFront handle (bytes_in (blocks_of blocks)))
    (sym (under.unlocks ∙ ap (λ (held : Held). held.handle) under.does.same))
    (in_front_if_gathered max_count max_bytes (blocks_of blocks) before under.locks.left under.does.shows.gathered some)
gathered_under_lock blocks_of max_count max_bytes old (Err refusal) new under = tt
