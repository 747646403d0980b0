use Rattle.std.proofs.Common.{arith}
use Rattle.ob_budget.proofs.Moves.{may-read}
use Rattle.ob_budget.proofs.budget.Budget.load.Goals as goal

pub load-requires : goal.load-requires
load-requires c =
    (cc, omega (arith, c.self.invariant.sixteen), may-read c.self.inside.table.shared.key _ c.args.seat.now.id c.args.seat.now.me)
