use Rattle.std.proofs.Common.{arith}
use Rattle.ob_shared_connection.proofs.Locking.{may_ask}
use Rattle.ob_shared_connection.proofs.shared.Shared.ask_lock.Goals as goal

pub swap-requires : goal.swap-requires
swap-requires c =
    let shared = c.args.self.now in
    let seat = c.args.seat.now in (
      c.requires.table,
      omega (arith, shared.words),
      may_ask shared.table.shared.table_id.slots seat.id seat.me 2 (λ e. omega arith)
          c.requires.rests.seat.named,
    )
