use Rattle.std.proofs.Common.{◌≡◌}
use Rattle.ob_tests.proofs.tests.lanes.meeting.meet.Given as goal

abbrev pub invariant-asks : goal.invariant-asks
invariant-asks g l = l.charged.words ≡ l.words
