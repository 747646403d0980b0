use Rattle.std.proofs.Common.{◌+◌, ◌<◌}
use Rattle.ob_budget.specs.Account.{total_of}
use Rattle.ob_budget.proofs.Tries.{IsTrying}
use Rattle.ob_budget.proofs.seat.Seat.raise.Given as goal

-- if there is no room, this call has seen that
abbrev pub invariant-tries : goal.invariant-tries
invariant-tries l =
    IsTrying l.turn l.fn.self l.self
    × (l.fn.self.budget.bounds.room < total_of l.self.account.last + l.amount → l.fn.self.account.steps < l.self.account.steps)
