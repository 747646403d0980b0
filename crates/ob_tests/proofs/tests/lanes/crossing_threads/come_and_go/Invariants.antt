use Rattle.std.proofs.Common.{◌≡◌}
use Rattle.ob_tests.proofs.tests.lanes.crossing_threads.come_and_go.Given as goal

abbrev pub invariant-rounds : goal.invariant-rounds
invariant-rounds g l = l.lane.words ≡ l.words
