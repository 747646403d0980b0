-- What was sent can be taken away.
use Rattle.ob_connection.proofs.Words.{◌≡◌, ◌≤◌, ℕ, Bool, false, not, List, [], refl, length, take, ltb, cond, sym, ap, ◌∙◌, whole}
use Rattle.ob_connection.proofs.Words.{arith, nat_tests, Some, None, Option, Err, Refusal, Closed, Reply, Command, Settings}
use Rattle.ob_connection.proofs.Words.{Connected, StandsFor, StandsForSome, Gives, true, ◌<◌}
use Rattle.std.proofs.lemmas.List.{length-map}
use Rattle.ob_types.specs.Limits.{greatest_total}
use Rattle.ob_seq.specs.Looks.{first_blocks, gathered_after, with_bytes}
use Rattle.ob_seq.specs.Rows.{line}
use Rattle.ob_seq.specs.State.{closed_after, empty_after, is_closed}
use Rattle.ob_seq.proofs.Rows.Limits.{run_within}
use Rattle.ob_connection.specs.declared.ending.Ending.{Ending}
use Rattle.ob_connection.specs.declared.ending.Ending.TheVariants.{Drained, Blocked as NoRoom, OtherInFront, TurnsUsed, Broken as IsBroken}
use Rattle.ob_connection.specs.Sending.{Asks, bytes_or_fault, Ends, IsDue, offered_after, sent_or_fault}
use Rattle.ob_connection.specs.declared.connection.sending.SendFault.{SendFault}
use Rattle.ob_connection.specs.declared.connection.sending.Sent.{Sent}
use Rattle.ob_connection.specs.declared.connection.offer.Offer.{Offer}
use Rattle.ob_connection.specs.declared.connection.offer.Offer.TheVariants.{Nothing, Took, Blocked as AskedBlocked, Broken as AskedBroken}
use Rattle.std.specs.List.{concat}
use Rattle.std.specs.Prelude.{min, is_some, IfOk, Result, ◌&&◌}
use Rattle.ob_connection.proofs.Words.{◌∷◌, ◌++◌, Past, held, connection_limit}
use Rattle.ob_types.specs.declared.command.Command.TheVariants.{RemoveBytes}
use Rattle.ob_types.specs.declared.refusal.Refusal.TheVariants.{TooManyBytes}
use Rattle.ob_seq.specs.Answer.{unless_refused}
use Rattle.ob_seq.specs.Effect.{byte_run, rows_after, bytes_in}
use Rattle.ob_seq.proofs.Inside.Gathered.{gathered_first, length_of_concat, more_gathered}
use Rattle.ob_seq.proofs.Simulating.Removed.{run_is}
use Rattle.ob_connection.specs.Connected.{answer_of_connection}
use Rattle.ob_connection.specs.Calls.{Call, calls_with, had_no_room, most_pieces, with_more}
use Rattle.ob_connection.specs.Inside.{removed, answer_of, EndsAt, IsLeft, offered, Offers, run_of}
use Rattle.ob_connection.proofs.Turns.{not_too_many}
use Rattle.ob_seq.proofs.Inside.Looked.{gathered_is}
use Rattle.ob_seq.proofs.Simulating.Simulated.{goes_on, simulated}

-- what a connection has left in front is what its history has
pub run_after : (now : Connected) (commands : List Command) → StandsFor now commands →
    run_of now.unsent ≡ byte_run (rows_after now.unsent.settings.estimate commands)
run_after now commands stands = sym (run_is (whole stands.past now.unsent) commands stands.as_buffer.leaves)

-- bytes of an offer are the first of what is left in front, and of what is gathered
module _ (now : Connected) (commands : List Command) (stands : StandsFor now commands) (max_count max_bytes bytes : ℕ)
    (within : bytes ≤ length (concat (offered (min most_pieces max_count) max_bytes now.unsent))) where
  abbrev run : List (List ℕ)
  run = byte_run (rows_after now.unsent.settings.estimate commands)

  offered_few : bytes ≤ length (concat (first_blocks (min most_pieces max_count) max_bytes (with_bytes run)))
  offered_few = grind (arith, run_after)

  pub offered_within : bytes ≤ bytes_in run
  offered_within =
      omega (
        arith,
        (gathered_first (min most_pieces max_count) max_bytes run bytes offered_few).1,
        length_of_concat run,
      )

  pub offered_are_gathered :
      take bytes (concat (offered (min most_pieces max_count) max_bytes now.unsent))
      ≡ take bytes (concat (gathered_after now.unsent.settings commands max_count max_bytes))
  offered_are_gathered = grind (arith, more_gathered, run_after, gathered_first, offered_few)

by_tests : (closed few : Bool) (reply : Reply) (refusal : Refusal) → closed ≡ false → few ≡ false →
    (let first : Option Refusal = cond closed (Some Closed) (cond few (Some TooManyBytes) None) in
    Err refusal ≡ unless_refused first reply) → ⊥
by_tests closed few reply refusal unclosed enough same = grind arith

-- so an open connection does not refuse to take as many away
pub not_refused : (settings : Settings) (commands : List Command) (n : ℕ) (refusal : Refusal) →
    is_closed commands ≡ false → n ≤ bytes_in (byte_run (rows_after settings.estimate commands)) →
    Err refusal ≡ answer_of_connection settings commands (RemoveBytes n) → ⊥
not_refused settings commands n refusal unclosed within same = grind (arith, by_tests)

-- how many stand in line
line_count : (now : Connected) (commands : List Command) → StandsFor now commands →
    length now.unsent.line ≡ length (line (rows_after now.unsent.settings.estimate commands))
line_count now commands stands = grind (arith, length-map)

is_empty : (now : Connected) → length now.unsent.line ≡ 0 → Gives now empty_after true
is_empty now none commands stands = let same = line_count now commands stands in grind (arith, nat_tests)

is_not_empty : (now : Connected) → 0 < length now.unsent.line → Gives now empty_after false
is_not_empty now some commands stands = let same = line_count now commands stands in grind (arith, nat_tests)

-- what is left when a sending ended so, by the history
pub ends_are : (now : Connected) (ending : Ending) → EndsAt now.unsent ending → Ends now ending
ends_are now Drained none = is_empty now none
ends_are now NoRoom some = is_not_empty now some
ends_are now OtherInFront left =
    (is_not_empty now left.0, λ commands stands. sym left.1 ∙ ap bytes_in (run_after now commands stands))
ends_are now TurnsUsed some = is_not_empty now some
ends_are now (IsBroken error) some = is_not_empty now some

-- a connection that is open after each history is open
pub is_open : {now : Connected} → Gives now closed_after false → StandsForSome now → now.unsent.closed ≡ false
is_open unclosed some = some.1.as_buffer.leaves.closed ∙ sym (unclosed some.0 some.1)

-- an open connection has no more bytes in front than may be pending
pub few_in_front : (now : Connected) (commands : List Command) → StandsFor now commands →
    bytes_in (run_of now.unsent) ≤ greatest_total
few_in_front now commands stands = grind (arith, run_within, run_after)

-- what is offered is what is offered after the history
offered_is : (now : Connected) (commands : List Command) → StandsFor now commands → (max_count max_bytes : ℕ) →
    offered (min most_pieces max_count) max_bytes now.unsent
    ≡ offered_after max_count max_bytes now.unsent.settings commands
offered_is now commands stands max_count max_bytes =
    ap (λ blocks. first_blocks (min most_pieces max_count) max_bytes (with_bytes blocks)) (run_after now commands stands)

-- a socket was asked if there was something to offer
asked_for : (offer : Offer) (blocks : List (List ℕ)) → (offer ≡ Nothing → blocks ≡ []) →
    (¬ (offer ≡ Nothing) → 0 < length blocks) → is_some (answer_of offer) ≡ ltb 0 (length blocks)
asked_for Nothing blocks nothing something = rw (nothing refl) refl
asked_for (Took count) blocks nothing something = let some = something (λ same. absurd (cc)) in grind (arith, nat_tests)
asked_for AskedBlocked blocks nothing something = let some = something (λ same. absurd (cc)) in grind (arith, nat_tests)
asked_for (AskedBroken error) blocks nothing something = let some = something (λ same. absurd (cc)) in grind (arith, nat_tests)

-- what an open connection asks of a socket that it made an offer, and reports
pub asks_by : {now : Connected} → Gives now closed_after false → (max_count max_bytes : ℕ) →
    (sent_before sent_after : Option (List ℕ)) (before after : Option (List Call)) (offer : Offer) →
    Offers (min most_pieces max_count) max_bytes now.unsent sent_before before offer sent_after after →
    (result : Result Sent SendFault) → bytes_or_fault result ≡ sent_or_fault false (answer_of offer) →
    IfOk result (λ done. done.blocked ≡ had_no_room (answer_of offer)) → Asks max_count max_bytes now before result after
asks_by {now} unclosed max_count max_bytes sent_before sent_after before after offer offers result told blocks = record {
  answer = answer_of offer;
  asked = λ commands stands. asked_for offer (offered (min most_pieces max_count) max_bytes now.unsent) offers.nothing
      offers.something
      ∙ ap (λ (blocks : List (List ℕ)). ltb 0 (length blocks)) (offered_is now commands stands max_count max_bytes)
      ∙ ap (λ closed. not closed && ltb 0 (length (offered_after max_count max_bytes now.unsent.settings commands)))
      (unclosed commands stands);
  calls = λ commands stands. offers.calls
      ∙ ap (λ (blocks : List (List ℕ)). with_more before (calls_with blocks (answer_of offer)))
      (offered_is now commands stands max_count max_bytes);
  told = λ commands stands. told ∙ ap (λ closed. sent_or_fault closed (answer_of offer)) (unclosed commands stands);
  blocked = blocks;
}

-- what is left once `taken` bytes were taken away is what is gathered after a removal of them
pub due_after : {now : Connected} → Gives now closed_after false → (max_bytes taken : ℕ) (pieces : List (List ℕ)) →
    IsLeft max_bytes now taken pieces → IsDue max_bytes now taken pieces
due_after {now} unclosed max_bytes taken pieces left = record {
  some = left.some;
  gathered = λ commands stands.
      let past : Past now = record { outcomes = stands.past; count = stands.forgotten } in
      let old = held past in
      let command = RemoveBytes taken in
      let on = goes_on connection_limit command old commands stands.as_buffer.accepted stands.as_buffer.leaves
      (stands.as_buffer.leaves.closed ∙ sym (unclosed commands stands)) (not_too_many taken old left.within) in
      left.left past
      ∙ gathered_is (removed taken old) most_pieces max_bytes (commands ++ command ∷ []) on.1
      ∙ ap (λ settings. gathered_after settings (commands ++ command ∷ []) most_pieces max_bytes)
      (simulated connection_limit command old).settings;
}
