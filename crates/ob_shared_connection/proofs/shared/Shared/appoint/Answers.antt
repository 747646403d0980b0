use Rattle.std.proofs.Common.{arith}
use Rattle.ob_shared_connection.proofs.Roles.{may_appoint}
use Rattle.ob_shared_connection.proofs.shared.Shared.appoint.Goals as goal

pub swap-requires : goal.swap-requires
swap-requires c =
    let shared = c.args.self.now in
    let seat = c.args.seat.now in (
      c.requires.table,
      omega (arith, shared.words),
      may_appoint shared.table.shared.table_id.slots seat.id seat.me c.requires.lock,
    )
