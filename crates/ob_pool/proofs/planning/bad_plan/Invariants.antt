use Rattle.std.proofs.Common.{◌≡◌, drop}
use Rattle.ob_pool.specs.Drive.{bad_plan_from}
use Rattle.ob_pool.proofs.planning.bad_plan.Given as goal

abbrev pub invariant-loop-plan : goal.invariant-loop-plan
invariant-loop-plan l = record {
  writer : l.writer ≡ l.plan-index;
  left : bad_plan_from l.plan-index (drop l.plan-index l.plans) ≡ bad_plan_from 0 l.plans;
}
