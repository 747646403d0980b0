use Rattle.ob_lanes.specs.Inside.{SeatTries}
use Rattle.ob_lanes.proofs.words.Words.subtract.Given as goal

abbrev pub invariant-tries : goal.invariant-tries
invariant-tries g l = SeatTries l.fn.seat l.expected l.seat
