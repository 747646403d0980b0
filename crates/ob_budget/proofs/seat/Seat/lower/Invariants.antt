use Rattle.ob_budget.proofs.Tries.{IsTrying}
use Rattle.ob_budget.proofs.seat.Seat.lower.Given as goal

abbrev pub invariant-tries : goal.invariant-tries
invariant-tries l = IsTrying l.turn l.fn.self l.self
