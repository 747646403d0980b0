use Rattle.std.proofs.Common.{◌≡◌, true, Some, sym, ap, ◌∙◌, take}
use Rattle.std.specs.Prelude.{is_ok, slice_get}
use Rattle.std.proofs.lemmas.Option.{slice_get-get_or}
use Rattle.ob_seq.specs.Answer.{is_accepted}
use Rattle.ob_history.specs.History.{accepted_commands}
use Rattle.ob_history.proofs.Histories.{legal_beginning}
use Rattle.ob_history.proofs.Told.{legal_are_accepted}
use Rattle.ob_history.proofs.laws.a_history_keeps_to_the_limits.Goals as goal

pub returns : goal.returns
returns c = record {
  removal = λ settings records one n legal there accepted removes.
      let index = there.0 in
      let found : slice_get records index ≡ Some one = slice_get-get_or records index one there.1 ∙ ap Some there.2 in
      let before = accepted_commands (take index records) in
      let all = legal_are_accepted settings (take index records) (legal_beginning settings records index legal) in
      let taken : is_accepted settings before one.command ≡ true =
      ap is_ok (sym (legal index one found).reply) ∙ accepted in
      c.accepted_commands_keep_to_the_limits.ensures.removal settings before n all
      (ap (is_accepted settings before) (sym removes) ∙ taken);
  total = λ settings records legal. c.accepted_commands_keep_to_the_limits.ensures.total settings
      (accepted_commands records) (legal_are_accepted settings records legal);
  word = λ settings records. c.the_word_is_the_mark_and_the_user_bits.ensures.no_higher settings
      (accepted_commands records);
}
