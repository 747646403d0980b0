-- What accepted a write accepts a flush.
use Rattle.std.proofs.Common.{◌≡◌, refl, ◌∙◌, List, [], ◌∷◌, ◌++◌, append_assoc, true, false, Bool}
use Rattle.std.specs.Prelude.{Option, Some, None, Result, Ok, Err, IsErrOf, if◌then◌else◌}
use Rattle.ob_types.specs.declared.command.Command.{Command}
use Rattle.ob_types.specs.declared.command.Command.TheVariants.{Write, Flush}
use Rattle.ob_types.specs.declared.message.Message.{Message}
use Rattle.ob_types.specs.declared.refusal.Refusal.{Refusal}
use Rattle.ob_types.specs.declared.refusal.Refusal.TheVariants.{Closed, NoMemory}
use Rattle.ob_types.specs.declared.reply.Reply.{Reply}
use Rattle.ob_seq.specs.Answer.{unless_refused}
use Rattle.ob_seq.specs.State.{is_closed}
use Rattle.ob_seq.proofs.Rows.History.{closed_more}
use Rattle.ob_connection.specs.Connected.{Connected, StandsFor}
use Rattle.ob_connection.specs.Obeying.{Obeys, flushed_reply, written_reply}
use Rattle.ob_connection.specs.declared.replies.Flushed.{Flushed}
use Rattle.ob_connection.specs.declared.replies.Written.{Written}
use Rattle.ob_patterns.specs.Writing.{accepted, Adds, RefusesWrite, written_and_flushed}

-- what is answered by a reply is open
open_if_answered : (closed : Bool) (other : Option Refusal) (reply said : Reply) →
    Ok said ≡ unless_refused (if closed then Some Closed else other) reply → closed ≡ false
open_if_answered true other reply said same = absurd (cc)
open_if_answered false other reply said same = refl

-- what refuses a command that an open connection accepts is closed
closed_if_refused : (closed : Bool) (refusal : Refusal) (reply : Reply) →
    Err refusal ≡ unless_refused (if closed then Some Closed else None) reply → closed ≡ true
closed_if_refused true refusal reply same = refl
closed_if_refused false refusal reply same = absurd (cc)

module _ {old between : Connected} {message : Message} {written : Written}
    (writes : Obeys old (Write message) written_reply (accepted written) between) where
  -- an accepted write found the connection open
  was_open : (commands : List Command) → StandsFor old commands → is_closed commands ≡ false
  was_open commands stands =
      open_if_answered (is_closed commands) _ _ _ ((writes.answer (λ wants. absurd (cc))).says commands stands)

  module _ {new : Connected} where
    -- so the flush after it is not refused
    none_refused : (refusal : Refusal) → (let result : Result Flushed Refusal = Err refusal in
        Obeys between Flush flushed_reply result new × ¬ IsErrOf result NoMemory) → (commands : List Command) →
        StandsFor old commands → ⊥
    none_refused refusal flushes commands stands =
        let said = (flushes.0.answer flushes.1).says (commands ++ Write message ∷ []) (writes.stands commands stands) in
        let shut = closed_if_refused (is_closed (commands ++ Write message ∷ [])) refusal _ said in
        let unclosed = closed_more commands (Write message) (was_open commands stands) in
        cc

    flushed_after : (result : Result Flushed Refusal) → Obeys between Flush flushed_reply result new →
        ¬ IsErrOf result NoMemory → (commands : List Command) → StandsFor old commands →
        StandsFor new (commands ++ written_and_flushed message)
    flushed_after (Ok flushed) flushes frugal commands stands =
        rw append_assoc at (flushes.stands (commands ++ Write message ∷ []) (writes.stands commands stands))
    flushed_after (Err refusal) flushes frugal commands stands =
        absurd (none_refused refusal (flushes, frugal) commands stands)

    -- and both are added to the history
    pub both_added : (result : Result Flushed Refusal) → Obeys between Flush flushed_reply result new →
        ¬ IsErrOf result NoMemory → Adds old (written_and_flushed message) new
    both_added result flushes frugal = record {
      stands = flushed_after result flushes frugal;
      settings = flushes.settings ∙ writes.settings;
    }

-- what a refused write is refused for
pub refuses : {old new : Connected} {message : Message} {refusal : Refusal} →
    (let result : Result Written Refusal = Err refusal in Obeys old (Write message) written_reply result new) →
    RefusesWrite old message refusal
refuses writes other commands stands = (writes.answer (λ wants. other (cc))).says commands stands
