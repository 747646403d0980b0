use Rattle.std.proofs.Common.{arith}
use Rattle.ob_shared_connection.proofs.Locking.{may_unlock}
use Rattle.ob_shared_connection.proofs.shared.Shared.leave.Goals as goal

pub swap-found-requires : goal.swap-found-requires
swap-found-requires c =
    let shared = c.args.self.now in
    let seat = c.args.seat.now in (
      c.requires.table,
      omega (arith, shared.words),
      may_unlock shared.table.shared.table_id.slots seat.id seat.me shared.slots c.requires.may,
    )
