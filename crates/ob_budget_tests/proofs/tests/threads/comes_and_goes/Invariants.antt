use Rattle.std.proofs.Common.{◌≡◌}
use Rattle.ob_budget_tests.proofs.tests.threads.comes_and_goes.Given as goal

abbrev pub invariant-rounds : goal.invariant-rounds
invariant-rounds g l = l.party.seat.budget ≡ l.budget
