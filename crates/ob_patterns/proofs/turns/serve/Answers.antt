use Rattle.std.proofs.Common.{arith}
use Rattle.ob_patterns.proofs.Serving.{all_served, none_served, one_served}
use Rattle.ob_patterns.proofs.turns.serve.Goals as goal

pub loop-turn-init : goal.loop-turn-init
loop-turn-init g c = none_served _ _ c.if-is_closed.ensures

pub loop-turn-preserved : goal.loop-turn-preserved
loop-turn-preserved g c = one_served c.loop-turn.invariant c.spin-next.ensures.spins

pub returns-clause-serves : goal.returns-clause-serves
returns-clause-serves g c =
    all_served c.loop-turn.invariant (omega (arith, c.loop-turn-test.false, c.loop-turn.auto._turn-end))
