use Rattle.std.proofs.Common.{sym, ap, ◌∙◌, arith}
use Rattle.ob_types.specs.Marks.{change_between}
use Rattle.ob_core.specs.World.{CoreState}
use Rattle.ob_core.proofs.StepLemmas.{change_found-between}
use Rattle.ob_core.proofs.laws.steps.a_step_finds_its_change.Goals as goal

pub returns : goal.returns
returns c = record {
  change = λ old new index step made fits. change_found-between step old (omega (arith, fits)) ∙ sym
      (ap (λ (core : CoreState). change_between old.word core.word) made.after);
}
