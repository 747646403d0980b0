use Rattle.std.proofs.Common.{arith}
use Rattle.ob_shared_connection.proofs.Publishing.{may_list}
use Rattle.ob_shared_connection.proofs.shared.Shared.list.Goals as goal

pub load-found-requires : goal.load-found-requires
load-found-requires g c =
    let shared = c.args.self.now in
    let seat = c.args.seat.now in (
      c.requires.table,
      omega (arith, shared.words),
      may_list shared.table.shared.table_id.slots seat.id seat.me g.C.Accepted.commands c.requires.lock c.requires.may,
    )
