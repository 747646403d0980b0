use Rattle.std.proofs.Common.{arith}
use Rattle.ob_budget.proofs.Moves.{may-exchange}
use Rattle.ob_budget.proofs.budget.Budget.exchange.Goals as goal

pub compare_exchange-requires : goal.compare_exchange-requires
compare_exchange-requires c = (
  cc,
  omega (arith, c.self.invariant.sixteen),
  may-exchange c.self.inside.table.shared.key _ c.args.seat.now.id c.args.seat.now.me c.args.last c.args.next c.requires.last
      c.requires.next,
)
