use Rattle.std.proofs.Common.{ap, ◌∙◌, arith}
use Rattle.ob_shared_connection.specs.Steps.{Knows}
use Rattle.ob_shared_connection.proofs.Publishing.{may_read}
use Rattle.ob_shared_connection.proofs.Seating.{may_take}
use Rattle.ob_shared_connection.proofs.shared.Shared.take.Goals as goal

pub join_seat-requires : goal.join_seat-requires
join_seat-requires c =
    let shared = c.args.self.now in
    let seat = c.args.seat.now in
    let other = c.args.other in (
      c.requires.table,
      c.requires.other,
      c.requires.other_rests.slots,
      omega (arith, shared.words),
      may_take seat.id seat.me.0 other.id other.me.0 c.requires.rests.seat.named c.requires.rests.seat.there
          c.requires.rests.free
          c.requires.other_rests.seat.named c.requires.other_rests.free,
    )

pub load-found-requires : goal.load-found-requires
load-found-requires c =
    let shared = c.args.self.now in
    let seat = c.join_seat.new.seat in (
      c.join_seat.ensures.0 ∙ c.requires.table,
      omega (arith, shared.words),
      may_read shared.table.shared.table_id.slots seat.id seat.me
          (ap (λ (me : Knows). me.0.holds) c.join_seat.ensures.2 ∙ c.requires.rests.free),
    )
