-- An open connection can be given up.
use Rattle.ob_connection.proofs.Words.{◌≡◌, ℕ, List, [], ◌∷◌, ◌++◌, refl, sym, ap, ◌∙◌, arith, false, None, Ok, Err, length}
use Rattle.ob_connection.proofs.Words.{Command, Connected, Refusal, StandsFor, connection_limit, held, Outcome}
use Rattle.std.proofs.lemmas.List.{length-drop}
use Rattle.ob_types.specs.declared.command.Command.TheVariants.{Close, FailFlushed}
use Rattle.ob_types.specs.declared.promise.Cause.{Cause}
use Rattle.ob_types.specs.declared.promise.Outcome.TheVariants.{Failed}
use Rattle.ob_seq.specs.Answer.{unless_refused}
use Rattle.ob_seq.specs.State.{is_closed}
use Rattle.ob_seq.specs.Steps.Commands.{closing_step, line_failed}
use Rattle.ob_seq.proofs.Inside.LetGo.{none_left}
use Rattle.ob_seq.proofs.Inside.Steps.{first_where_open, line_of_times}
use Rattle.ob_seq.proofs.Simulating.Simulated.{answer_is, goes_on, simulated}
use Rattle.ob_connection.specs.Connected.{answer_of_connection}
use Rattle.ob_connection.proofs.Steps.{closed_of_times}
use Rattle.ob_connection.proofs.Obeyed.{past_of}
use Rattle.ob_connection.proofs.Settling.{taken_between}

module _ {now : Connected} {commands : List Command} (cause : Cause) (refusal : Refusal) (stands : StandsFor now commands)
    (unclosed : now.unsent.closed ≡ false) where
  -- an open connection fails what is flushed
  pub fails_line : Err refusal ≡ answer_of_connection now.unsent.settings commands (FailFlushed cause false) → ⊥
  fails_line same = let opened : is_closed commands ≡ false = sym stands.as_buffer.leaves.closed ∙ unclosed in grind arith

  -- and then it closes
  pub closes_then :
      Err refusal ≡ answer_of_connection now.unsent.settings (commands ++ FailFlushed cause false ∷ []) (Close cause) → ⊥
  closes_then same =
      let all = commands ++ FailFlushed cause false ∷ [] in
      let old = held (past_of stands) in
      let on = goes_on connection_limit (FailFlushed cause false) old commands stands.as_buffer.accepted stands.as_buffer.leaves unclosed refl in
      let settings = (simulated connection_limit (FailFlushed cause false) old).settings in
      let mid = line_failed cause false old in
      let shut : mid.closed ≡ false = closed_of_times false (Failed cause) (length old.line) old ∙ unclosed in
      let empty : length mid.line ≡ 0 =
      ap (λ entries. length entries) (line_of_times false (Failed cause) (length old.line) old)
      ∙ length-drop (length old.line) old.line ∙ omega arith in
      let step = closing_step cause mid in
      let first = first_where_open mid step shut (none_left cause mid empty) in
      let both : Err refusal ≡ Ok step.reply =
      same ∙ ap (λ one. answer_of_connection one all (Close cause)) (sym settings)
      ∙ sym (answer_is connection_limit (Close cause) mid all on.1) ∙ ap (λ none. unless_refused none step.reply) first in
      absurd (cc)

-- what was taken away from one number to another
pub same_interval : (outcome : Outcome) {from from' to to' : ℕ} → from ≡ from' → to ≡ to' →
    taken_between from to outcome None ≡ taken_between from' to' outcome None
same_interval outcome from to = cc
