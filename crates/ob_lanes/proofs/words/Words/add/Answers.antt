use Rattle.ob_core.specs.declared.lane_step.LaneStep.TheVariants.{Add}
use Rattle.ob_lanes.proofs.Tries.{again, tried}
use Rattle.ob_lanes.proofs.words.Words.add.Goals as goal

pub tries-preserved : goal.tries-preserved
tries-preserved g c =
    again (Add c.args.amount) _ _ _ _ _ c.if-found-expected.false c.tries.invariant c.try_add-found.ensures.made

pub returns-then-found-expected-clause-tried : goal.returns-then-found-expected-clause-tried
returns-then-found-expected-clause-tried g c =
    tried (Add c.args.amount) _ _ _ _ _ c.if-found-expected.true c.tries.invariant.trying c.try_add-found.ensures.made.told
