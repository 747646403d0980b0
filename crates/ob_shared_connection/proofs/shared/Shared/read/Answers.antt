use Rattle.std.proofs.Common.{arith}
use Rattle.ob_shared_connection.proofs.Publishing.{may_read}
use Rattle.ob_shared_connection.proofs.shared.Shared.read.Goals as goal

pub load-requires : goal.load-requires
load-requires c =
    let shared = c.args.self.now in
    let seat = c.args.seat.now in (
      c.requires.table,
      omega (arith, shared.words),
      may_read shared.table.shared.table_id.slots seat.id seat.me c.requires.free,
    )
