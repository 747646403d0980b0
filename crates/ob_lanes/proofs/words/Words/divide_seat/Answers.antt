use Rattle.std.proofs.Common.{◌<◌, ◌^◌, arith}
use Rattle.ob_lanes.proofs.Seats.{division_allowed}
use Rattle.ob_lanes.proofs.words.Words.divide_seat.Goals as goal

pub split_seat-requires : goal.split_seat-requires
split_seat-requires g c =
    let seat = c.args.seat.now in
    let small : g.S.Part.bits < 2 ^ 32 = omega (arith, c.requires.part.1, c.ranges._bits.fits) in (
      cc,
      omega (arith, c.self.invariant.sixteen),
      division_allowed c.self.inside.table.shared.key seat.id seat.me.0 _ _
          c.requires.words.2 c.requires.free small c.requires.fits,
    )
