-- What a transport offers stands in front, and what it takes away is accepted.
use Rattle.std.proofs.Common.{◌≡◌, ◌≤◌, ◌<◌, ℕ, zero, suc, Bool, true, false, cond, not, ltb, List, [], ◌∷◌, take, length, min, max, refl, sym, ap, ◌∙◌, subst, arith, Ok, Result}
use Rattle.std.proofs.lemmas.Bool.Decides.{nat_tests}
use Rattle.std.proofs.lemmas.List.Sums.{sum_by-cons}
use Rattle.std.specs.List.{concat}
use Rattle.std.specs.declared.alloc.Global.{Global}
use Rattle.std.specs.declared.vec.Vec.{Vec}
use Rattle.ob_types.specs.declared.command.Command.{Command}
use Rattle.ob_types.specs.declared.command.Command.TheVariants.{RemoveBytes}
use Rattle.ob_types.specs.declared.promise.Outcome.TheVariants.{Success}
use Rattle.ob_types.specs.declared.refusal.Refusal.{Refusal}
use Rattle.ob_seq.specs.Effect.{byte_run, rows_after, bytes_in, pieces_within}
use Rattle.ob_seq.specs.Looks.{with_bytes}
use Rattle.ob_seq.specs.Rows.{Settings}
use Rattle.ob_seq.specs.State.{closed_after, empty_after}
use Rattle.ob_seq.proofs.Inside.Gathered.{length_of_concat}
use Rattle.ob_connection.specs.Calls.{bytes_of, most_pieces}
use Rattle.ob_connection.specs.Connected.{AreGathered}
use Rattle.ob_connection.specs.Sending.{offered_after}
use Rattle.ob_connection.specs.Connected.{Gives}
use Rattle.ob_connection.specs.declared.connection.sending.Sent.{Sent}
use Rattle.ob_connection.specs.declared.replies.Taken.{Taken}
use Rattle.ob_connection.specs.declared.socket.SocketFault.{SocketFault}
use Rattle.ob_shared_connection.specs.Calls.{Makes, Taking, UnderLock}
use Rattle.ob_shared_connection.specs.Values.{commands_of, HandleValue, Held, IsLeft}
use Rattle.ob_shared_connection.specs.Sending.{Asked, Asks, Offering, Offers, OffersNothing, TakesAway, Told}
use Rattle.ob_shared_connection.specs.Sending.{AreInFront}
use Rattle.ob_shared_connection.specs.declared.offered.Offered.{Offered}
use Rattle.ob_shared_connection.specs.declared.offered.Offered.TheVariants.{Blocks}
use Rattle.ob_shared_connection.specs.declared.transport.sending.SendFault.{SendFault}
use Rattle.ob_shared_connection.proofs.Taking.{gathered_in_front}

-- some blocks of those that hold a byte hold a byte
some_bytes : (blocks : List (List ℕ)) (count : ℕ) → 0 < length (take count (with_bytes blocks))
    → 0 < bytes_in (take count (with_bytes blocks))
some_bytes [] zero some = absurd (omega arith)
some_bytes [] (suc count) some = absurd (omega arith)
some_bytes (block ∷ blocks) count some =
    by_test (ltb 0 (length block)) refl (λ (fewer : ℕ) there. some_bytes blocks fewer there) count some
  where
    by_test : (test : Bool) → ltb 0 (length block) ≡ test
        → ((fewer : ℕ) → 0 < length (take fewer (with_bytes blocks)) → 0 < bytes_in (take fewer (with_bytes blocks)))
        → (count : ℕ)
        → 0 < length (take count (cond test (block ∷ with_bytes blocks) (with_bytes blocks)))
        → 0 < bytes_in (take count (cond test (block ∷ with_bytes blocks) (with_bytes blocks)))
    by_test true is behind zero some = absurd (omega arith)
    by_test true is behind (suc count) some =
        let all = sum_by-cons (λ (piece : List ℕ). length piece) block (take count (with_bytes blocks)) in
        let here : 0 < length block = grind (arith, nat_tests) in
        omega arith
    by_test false is behind count some = behind count some

some_offered : (max_count max_bytes : ℕ) (settings : Settings) (commands : List Command)
    → 0 < length (offered_after max_count max_bytes settings commands)
    → 0 < bytes_in (offered_after max_count max_bytes settings commands)
some_offered max_count max_bytes settings commands some =
    let run = byte_run (rows_after settings.estimate commands) in
    some_bytes run (min (min most_pieces max_count) (max 1 (pieces_within max_bytes (with_bytes run)))) some

-- what is offered is in front, once the lock is let go
pub offered_in_front : (max_count max_bytes : ℕ) (pieces : List (List ℕ)) (old looked : HandleValue)
    → UnderLock old (Offers max_count max_bytes pieces) looked → 0 < length pieces → (n : ℕ) → n ≤ length (concat pieces)
    → AreInFront looked n
offered_in_front max_count max_bytes pieces old looked under some n within =
    let before = under.before in
    let offers = under.does in
    let settings = before.handle.settings in
    let commands = commands_of before.handle.seen in
    let few = gathered_in_front settings commands (min most_pieces max_count) max_bytes in
    let much : 0 < bytes_in pieces = subst (λ (all : List (List ℕ)). 0 < bytes_in all) (sym offers.gathered)
    (some_offered max_count max_bytes settings commands
    (subst (λ (all : List (List ℕ)). 0 < length all) offers.gathered some)) in
    let bytes = ap bytes_in offers.gathered in
    let long = length_of_concat pieces in
    subst (λ (handle : HandleValue). AreInFront handle n)
    (sym (under.unlocks ∙ ap (λ (held : Held). held.handle) offers.same))
    (record { some = omega arith; enough = omega arith })

-- so what a socket took that was asked is in front
pub taken_in_front : (max_count max_bytes : ℕ) (old looked : HandleValue) (before after : Told)
    (asks : Asks max_count max_bytes old before looked after) (n : ℕ) → n ≡ bytes_of asks.answer → AreInFront looked n
taken_in_front max_count max_bytes old looked before after asks n took =
    offered_in_front max_count max_bytes asks.pieces old looked asks.offers asks.some n
    (subst (λ (bytes : ℕ). bytes ≤ length (concat asks.pieces)) (sym took) asks.asked.within)

-- what was taken away, and what is left
pub takes_away : (bytes : ℕ) (blocked : Bool) (taken : Taken) (before middle after : Held) (empty : Bool)
    → (let result : Result Taken Refusal = Ok taken in Makes (Taking Success) (RemoveBytes bytes) result before middle)
    → Gives middle.connected empty_after empty → after ≡ middle
    → TakesAway (record { bytes = bytes; blocked = blocked; taken = taken; more = not empty }) before after
takes_away bytes blocked taken before middle after empty makes gives same =
    let done : Sent = record { bytes = bytes; blocked = blocked; taken = taken; more = not empty } in
    subst (λ (held : Held). TakesAway done before held) (sym same) (record {
      takes = makes;
      more = ap not (gives (commands_of middle.handle.seen) makes.left.stands
          ∙ ap (λ (opened : Settings). empty_after opened (commands_of middle.handle.seen)) makes.left.settings_are);
    })

-- nothing is offered, and what is in front without a byte is taken away
pub offers_nothing : (max_count max_bytes : ℕ) (done : Sent) (before looked last after : Held) (blocks : List (List ℕ))
    → IsLeft before → Gives before.connected closed_after false → looked ≡ before
    → AreGathered looked.connected (min most_pieces max_count) max_bytes blocks → last ≡ looked → blocks ≡ []
    → TakesAway done last after → done.bytes ≡ 0 → done.blocked ≡ false
    → OffersNothing max_count max_bytes done before after
offers_nothing max_count max_bytes done before looked last after blocks left closed same all then none takes no_bytes free =
    let settings = before.handle.settings in
    let commands = commands_of before.handle.seen in
    let are : AreGathered before.connected (min most_pieces max_count) max_bytes blocks =
    subst (λ (held : Held). AreGathered held.connected (min most_pieces max_count) max_bytes blocks) same all in record {
      offers = record {
        is_open = sym (closed commands left.stands
            ∙ ap (λ (opened : Settings). closed_after opened commands) left.settings_are);
        gathered = sym none ∙ are commands left.stands
            ∙ ap (λ (opened : Settings). offered_after max_count max_bytes opened commands) left.settings_are;
        same = refl;
      };
      takes = subst (λ (held : Held). TakesAway done held after) (then ∙ same) takes;
      none = no_bytes;
      unblocked = free;
    }

-- a socket was asked with the blocks that were found under a lock
abbrev pub asked_for : (max_count max_bytes : ℕ) (old looked : HandleValue) (before after : Told)
    (offered : Result Offered SendFault) (blocks : Vec (List ℕ) Global) (slice : List (List ℕ))
    (answer : Result ℕ SocketFault) → UnderLock old (Offering max_count max_bytes offered) looked
    → offered ≡ Ok (Blocks blocks) → slice ≡ blocks.items → Asked slice before answer after
    → Asks max_count max_bytes old before looked after
asked_for max_count max_bytes old looked before after offered blocks slice answer under is same asked =
    let found : UnderLock old (Offering max_count max_bytes (Ok (Blocks blocks))) looked =
    subst (λ (result : Result Offered SendFault). UnderLock old (Offering max_count max_bytes result) looked) is under in
    record {
      pieces = blocks.items;
      answer = answer;
      offers = record {
        before = found.before;
        after = found.after;
        locks = found.locks;
        does = found.does.0;
        unlocks = found.unlocks;
      };
      some = found.does.1;
      asked = subst (λ (pieces : List (List ℕ)). Asked pieces before answer after) same asked;
    }
