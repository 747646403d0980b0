use Rattle.std.proofs.Common.{ap, arith}
use Rattle.ob_lanes.specs.declared.facts.Facts.{Facts}
use Rattle.ob_lanes.proofs.Seats.{merger_allowed}
use Rattle.ob_lanes.proofs.words.Words.merge_seats.Goals as goal

pub join_seat-requires : goal.join_seat-requires
join_seat-requires g c =
    let seat = c.args.seat.now in
    let other = c.args.other in
    let asked = c.requires in (
      cc,
      cc,
      asked.slots,
      omega (arith, c.self.invariant.sixteen),
      merger_allowed c.self.inside.table.shared.key seat.id other.id seat.me.0 other.me.0 g.S.Spent.facts asked.words.2 asked.other.2 asked.free.0
          asked.free.1 (ap (λ (f : Facts). f.grant) asked.spent) (ap (λ (f : Facts). f.made) asked.spent)
          (ap (λ (f : Facts). f.name) asked.spent),
    )
