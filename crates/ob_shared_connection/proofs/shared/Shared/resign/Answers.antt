use Rattle.std.proofs.Common.{arith}
use Rattle.ob_shared_connection.proofs.Roles.{may_resign}
use Rattle.ob_shared_connection.proofs.shared.Shared.resign.Goals as goal

pub store-requires : goal.store-requires
store-requires c =
    let shared = c.args.self.now in
    let seat = c.args.seat.now in (
      c.requires.table,
      omega (arith, shared.words),
      may_resign shared.table.shared.table_id.slots seat.id seat.me c.requires.sends,
    )
