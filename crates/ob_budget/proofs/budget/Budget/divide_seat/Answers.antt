use Rattle.std.proofs.Common.{◌<◌, arith}
use Rattle.ob_budget.proofs.Seats.{may-divide}
use Rattle.ob_budget.proofs.budget.Budget.divide_seat.Goals as goal

pub split_seat-requires : goal.split_seat-requires
split_seat-requires g c =
    let seat = c.args.seat.now in
    let given : 0 < g.S.Part.seats = omega (arith, c.requires.part, c.requires.given) in
    let kept : g.S.Part.seats < seat.me.0.seats = omega (arith, c.requires.part, c.requires.kept) in (
      cc,
      omega (arith, c.self.invariant.sixteen),
      may-divide c.self.inside.table.shared.key seat.id seat.me.0 g.S.Part.seats given kept,
    )
