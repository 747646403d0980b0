use Rattle.std.proofs.Common.{arith}
use Rattle.ob_shared_connection.proofs.Locking.{may_try}
use Rattle.ob_shared_connection.proofs.shared.Shared.try_lock.Goals as goal

pub compare_exchange-requires : goal.compare_exchange-requires
compare_exchange-requires c =
    let shared = c.args.self.now in
    let seat = c.args.seat.now in (
      c.requires.table,
      omega (arith, shared.words),
      may_try shared.table.shared.table_id.slots seat.id seat.me 1 (λ e. omega arith)
          c.requires.rests.seat.named,
    )
