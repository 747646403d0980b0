use Rattle.std.proofs.Common.{sym, subst, arith}
use Rattle.atomic_table.specs.Table.{Joins}
use Rattle.ob_budget.specs.Account.{joined_account, spent_account}
use Rattle.ob_budget.specs.Ruled.{Ruled}
use Rattle.ob_budget.proofs.Seats.{may-merge}
use Rattle.ob_budget.proofs.budget.Budget.merge_seats.Goals as goal

pub join_seat-requires : goal.join_seat-requires
join_seat-requires g c =
    let seat = c.args.seat.now in
    let other = c.args.other in
    let bounds = c.self.inside.table.shared.key in (
      cc,
      cc,
      c.requires.slots,
      omega (arith, c.self.invariant.sixteen),
      subst (λ spent. Joins (Ruled bounds) seat.id seat.me.0 other.id other.me.0 (joined_account seat.me.0 other.me.0) (spent_account spent))
          (sym c.requires.spent) (may-merge bounds seat.id other.id seat.me.0 other.me.0 c.requires.some_seat),
    )
