use Rattle.std.proofs.Common.{refl, arith}
use Rattle.ob_budget.specs.Account.{first_account}
use Rattle.ob_budget.proofs.Moves.{may-glance}
use Rattle.ob_budget.proofs.budget.Budget.load_anew.Goals as goal

pub load_new_seat-requires : goal.load_new_seat-requires
load_new_seat-requires c =
    let bounds = c.self.inside.table.shared.key in
    (omega (arith, c.self.invariant.sixteen), may-glance bounds _ (first_account bounds) refl)
