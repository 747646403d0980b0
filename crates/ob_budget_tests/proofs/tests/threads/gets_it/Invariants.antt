use Rattle.std.proofs.Common.{◌≡◌}
use Rattle.ob_budget_tests.proofs.tests.threads.gets_it.Given as goal

abbrev pub invariant-tries : goal.invariant-tries
invariant-tries g l = l.party.seat.budget ≡ l.budget
