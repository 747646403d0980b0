-- What is asked of a write to a connection.
use Rattle.ob_connection.proofs.Words.{◌≡◌, ◌≤◌, ◌+◌, ℕ, List, length, nat_tests, true, refl, sym, ap, ◌∙◌, arith, Past, held, whole, []}
use Rattle.ob_connection.proofs.Words.{connection_limit, accepted_writes, most_ids, Connected, Result, Ok, Err, Refusal}
use Rattle.ob_connection.proofs.Words.{NoMemory, Moves, step_within, Option, Outcome, Unsent, change_between}
use Rattle.std.specs.Result.{result_err}
use Rattle.ob_types.specs.PendingSize.{pending_size_of, pending_size_of_bytes}
use Rattle.ob_types.specs.declared.command.Command.TheVariants.{Write}
use Rattle.ob_types.specs.declared.estimate.Estimate.{Estimate}
use Rattle.ob_types.specs.declared.message.Message.{Message}
use Rattle.ob_types.specs.declared.message.Message.TheVariants.{Block}
use Rattle.ob_types.specs.declared.reply.Change.{Change}
use Rattle.ob_seq.specs.Steps.Commands.{asked, has_bytes_left, written}
use Rattle.ob_seq.proofs.Inside.Steps.{asked_there, few, first_is, light, refusal_other, write_made, write_wanting}
use Rattle.ob_connection.specs.Inside.{IsFirstRefusal, admission}
use Rattle.ob_connection.specs.Obeying.{written_reply}
use Rattle.ob_connection.proofs.Steps.{ids_are, some_past, first_refused, made_within}

-- what a block counts goes by how many bytes it has
pub size_of_block : (estimate : Estimate) (count : ℕ) (bytes : List ℕ) → length bytes ≡ count →
    pending_size_of_bytes estimate count ≡ pending_size_of estimate (Block bytes)
size_of_block estimate count bytes is = grind (arith, nat_tests)

-- what a connection admits is what is asked of the step, whatever outcomes the messages had that are gone
module _ {now : Connected} (message : Message) {result : Result ℕ Refusal} (is : result ≡ admission now message) where
  pub asked_held : (past : Past now) → result ≡ asked connection_limit message (held past)
  asked_held past =
      asked_there connection_limit message (held past) past.outcomes now.unsent refl (sym (ids_are past)) refl is

  -- so its refusal is the first of the step
  pub first_there : IsFirstRefusal now (Write message) (result_err result)
  first_there past = ap result_err (asked_held past) ∙ first_is connection_limit message (held past)

-- what is refused makes the step of a write
pub refused_moves : {now : Connected} (message : Message) {refusal : Refusal} → Err refusal ≡ admission now message →
    Moves now (Write message) written_reply (Err refusal) now
refused_moves {now} message {refusal} is =
    first_refused (Write message) written_reply refusal
    (refusal_other connection_limit message (held (some_past now)) (asked_held message is (some_past now)))
    (first_there message is)

module _ (now : Connected) (message : Message) {size : ℕ} (is : Ok size ≡ admission now message) where
  -- and so does what is admitted, and out of memory
  pub wanting_moves : Moves now (Write message) written_reply (Err NoMemory) now
  wanting_moves = made_within (step_within connection_limit (Write message)) written_reply now.unsent (Err NoMemory)
      (λ past. write_wanting connection_limit message (held past) (asked_held message is past)) refl

  -- there are ids and bytes left for what is admitted
  pub ids_left : accepted_writes now + 1 ≤ most_ids
  ids_left =
      let past = some_past now in
      let left = few connection_limit message (held past) (asked_held message is past) in
      let ids = ids_are past in
      grind (arith, nat_tests)

  pub bytes_left : has_bytes_left size (whole [] now.unsent) ≡ true
  bytes_left = light connection_limit message (held (some_past now)) (asked_held message is (some_past now))

-- a write that is made
pub written_moves : {now : Connected} (message : Message) (new : Unsent) {size id : ℕ} {change : Option Change} →
    Ok size ≡ admission now message → ((gone : List Outcome) → whole gone new ≡ written (whole gone now.unsent) message size) →
    id ≡ accepted_writes now → change ≡ change_between now.unsent.word new.word →
    Moves now (Write message) written_reply (Ok (record { id = id; change = change }))
    (record { unsent = new; gone = now.gone })
written_moves message new {id = id} {change} there made all turned =
    made_within (step_within connection_limit (Write message)) written_reply new (Ok (record { id = id; change = change }))
    (λ past. write_made connection_limit message (held past) (asked_held message there past) (made past.outcomes)
    (all ∙ sym (ids_are past)) turned) tt
