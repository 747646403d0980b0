use Rattle.std.proofs.Common.{sym, subst}
use Rattle.ob_core.specs.Step.{LeavesRest}
use Rattle.ob_core.proofs.StepLemmas.{LeavesRest-step}
use Rattle.ob_core.proofs.laws.steps.a_step_leaves_the_rest.Goals as goal

pub returns : goal.returns
returns c = record {
  rest = λ old new index step made. subst (LeavesRest step old) (sym made.after)
      (LeavesRest-step step old index made.lane);
}
