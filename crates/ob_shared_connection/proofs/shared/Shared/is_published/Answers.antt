use Rattle.std.proofs.Common.{ℕ, sym, subst, arith}
use Rattle.ob_shared_connection.specs.Steps.{IsNow}
use Rattle.ob_shared_connection.proofs.Publishing.{may_find}
use Rattle.ob_shared_connection.proofs.shared.Shared.is_published.Goals as goal

pub load-requires : goal.load-requires
load-requires g c =
    let shared = c.args.self.now in
    let seat = c.args.seat.now in (
      c.requires.table,
      omega (arith, shared.words),
      may_find shared.table.shared.table_id.slots seat.id seat.me g.N.Published.number c.requires.lock
          (subst (λ (number : ℕ). IsNow seat.me.0 number) (sym c.requires.number) c.requires.now),
    )
