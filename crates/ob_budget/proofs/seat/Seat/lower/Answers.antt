use Rattle.std.proofs.Common.{◌≡◌, ◌≤◌, ◌∙◌, ℕ, sym, ap, subst, arith, refl}
use Rattle.ob_budget.specs.Account.{after_move, lowered}
use Rattle.ob_budget.specs.Bounds.{BoundsValue}
use Rattle.ob_budget.specs.Calls.{HasTried}
use Rattle.ob_budget.specs.Ruled.{MayMove}
use Rattle.ob_budget.proofs.Tries.{won, may_lower, lower_held}
use Rattle.ob_budget.proofs.seat.Seat.lower.Goals as goal
use Rattle.ob_budget.proofs.seat.Seat.lower.Goals.{After-lowered-next, After-tries}

last_is : (c : After-lowered-next) → c.self-in-tries.inside.last ≡ c.tries.self.account.last
last_is c = sym c.self-in-tries.invariant.last ∙ ap (λ v. v.account.last) c.self-in-tries.view_is

lowers : (c : After-lowered-next) → c.lowered-next.result ≡ lowered c.args.self.now.budget.bounds c.tries.self.account.last c.args.amount
lowers c =
    c.lowered-next.ensures
    ∙ ap (λ (b : BoundsValue). lowered b c.self-in-tries.inside.last c.args.amount) (ap (λ b. b.bounds) (c.budget.view_is ∙ sym c.requires.budget))
    ∙ ap (λ last. lowered c.args.self.now.budget.bounds last c.args.amount) (last_is c)

held : (c : After-lowered-next) → c.args.amount ≤ c.tries.self.account.held
held c = omega (arith, c.requires.held, c.tries.invariant.tried.alike.held)

pub lowered-next-requires-clause-held : goal.lowered-next-requires-clause-held
lowered-next-requires-clause-held c =
    omega (
      arith,
      c.requires.held,
      c.tries.invariant.tried.alike.held,
      c.self-in-tries.invariant.may.no_less,
      ap (λ v. v.account.held) c.self-in-tries.view_is,
    )

pub exchange-requires-clause-next : goal.exchange-requires-clause-next
exchange-requires-clause-next c =
    let at = (goal.at.exchange-requires-clause-next c).After-lowered-next in
    subst (MayMove c.tries.self.account) (sym (lowers at))
    (may_lower c.tries.self c.tries.invariant.sound c.args.self.now.budget.bounds (ap (λ b. b.bounds) c.tries.invariant.budget)
    c.args.amount (held at))

pub returns-then-exchange-clause-held : goal.returns-then-exchange-clause-held
returns-then-exchange-clause-held c =
    let at = (goal.at.returns-then-exchange-clause-held c).After-lowered-next in
    let after : c.exchange.new.self.account ≡ after_move (lowered c.args.self.now.budget.bounds c.tries.self.account.last c.args.amount) c.tries.self.account =
    c.if-exchange.ensures.won refl ∙ ap (λ next. after_move next c.tries.self.account) (lowers at) in
    omega (
      arith,
      c.tries.invariant.tried.alike.held,
      lower_held c.tries.self c.tries.invariant.sound c.args.self.now.budget.bounds (ap (λ b. b.bounds) c.tries.invariant.budget)
          c.args.amount (held at) c.exchange.new.self after,
    )

pub returns-clause-refused : goal.returns-clause-refused
returns-clause-refused c = record {
  tried = subst (λ losses. HasTried losses c.args.self.now.account c.tries.self.account) (omega (arith, c.tries-test.false, c.tries.auto.turn-end)) c.tries.invariant.tried;
  budget = c.tries.invariant.budget;
}

pub returns-then-exchange-clause-lowered : goal.returns-then-exchange-clause-lowered
returns-then-exchange-clause-lowered c =
    let at = (goal.at.returns-then-exchange-clause-lowered c).After-lowered-next in
    let next : ℕ → ℕ = λ found. lowered c.args.self.now.budget.bounds found c.args.amount in
    won c.tries.turn c.args.self.now c.tries.self c.exchange.new.self c.tries.invariant c.if-exchange.ensures.budget next
    c.change_between.result c.tries-test.true
    (c.if-exchange.ensures.won refl ∙ ap (λ next. after_move next c.tries.self.account) (lowers at))
    (rw (← lowers at, ← last_is at) c.change_between.ensures)
