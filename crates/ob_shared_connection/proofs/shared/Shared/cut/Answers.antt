use Rattle.std.proofs.Common.{arith}
use Rattle.ob_shared_connection.proofs.Seating.{may_cut}
use Rattle.ob_shared_connection.proofs.shared.Shared.cut.Goals as goal

pub split_seat-requires : goal.split_seat-requires
split_seat-requires c =
    let shared = c.args.self.now in
    let seat = c.args.seat.now in (
      c.requires.table,
      omega (arith, shared.words),
      may_cut seat.id seat.me.0 c.requires.there c.requires.free,
    )
