use Rattle.std.proofs.Common.{ap, sym, subst, ◌∙◌, arith}
use Rattle.ob_covered.specs.Budgeted.{IsPending}
use Rattle.ob_covered.proofs.Pending.{shown}
use Rattle.ob_covered.proofs.budgeted.Budgeted.rest.Goals as goal

pub returns-clause-given : goal.returns-clause-given
returns-clause-given c now is few =
    let some = c.stands_for_some_commands.ensures in
    let here : IsPending c.self.inside.connection now = subst (λ v. IsPending v.connection now) (sym c.self.view_is) is in
    let same = here some.0 some.1 ∙ sym (shown c.self.inside.connection c.look.result c.look.ensures some.0 some.1) in
    omega (
      arith,
      same,
      c.from-pending.ensures,
      c.keep.ensures.given (omega (arith, few, ap (λ v. v.cover.seat.account.lost) c.self.view_is)),
    )
