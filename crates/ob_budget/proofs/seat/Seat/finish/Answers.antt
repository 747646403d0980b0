use Rattle.std.proofs.Common.{◌≤◌, ap, ◌∙◌, arith}
use Rattle.ob_budget.specs.Account.{most_seats}
use Rattle.ob_budget.proofs.Ends.{total_left, told_all}
use Rattle.ob_budget.proofs.seat.Seat.finish.Goals as goal

whole : (c : goal.After-look_of) → most_seats ≤ c.self.inside.seat.me.0.seats
whole c = omega (arith, c.self.invariant.seats, c.if-self-lt-MOST_SEATS.false)

pub returns-clause-total : goal.returns-clause-total
returns-clause-total c =
    c.look_of.ensures.total ∙ total_left _ c.self.inside.seat _ c.end.ensures (whole c) ∙ ap (λ v. v.account.held) c.self.view_is

pub returns-clause-told : goal.returns-clause-told
returns-clause-told c =
    rw (c.look_of.ensures.is_pressed, ← c.self.view_is) (told_all _ c.self.inside.seat _ c.end.ensures (whole c))
