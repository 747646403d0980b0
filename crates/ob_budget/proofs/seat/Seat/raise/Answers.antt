use Rattle.std.proofs.Common.{◌≡◌, ◌<◌, ◌+◌, ◌∙◌, ℕ, sym, ap, subst, arith, refl}
use Rattle.ob_budget.specs.Account.{after_move, SeatValue, total_of, raised}
use Rattle.ob_budget.specs.Bounds.{BoundsValue}
use Rattle.ob_budget.proofs.Tries.{IsTrying, begun, looked_begun, looked_stepped, won_raise}
use Rattle.ob_budget.proofs.seat.Seat.raise.Goals as goal
use Rattle.ob_budget.proofs.seat.Seat.raise.Goals.{After-raised-next, then-not-has_room, else-not-has_room}

abbrev IsBegun : SeatValue → ℕ → SeatValue → Type 0
IsBegun old amount now =
    IsTrying 0 old now
    × (old.budget.bounds.room < total_of now.account.last + amount → old.account.steps < now.account.steps)

pub tries-init : goal.tries-init
tries-init c = elim c.if-not-has_room.branch [
  | then-not-has_room w ↦ subst (IsBegun c.args.self.now c.args.amount) (sym w.self-is) (
    looked_begun c.args.self.now w.read.new.self c.is_sound.ensures w.read.ensures,
    λ full. looked_stepped c.args.self.now w.read.new.self w.read.ensures,
  )
  | else-not-has_room w ↦ subst (IsBegun c.args.self.now c.args.amount) (sym w.self-is) (
    begun c.args.self.now c.is_sound.ensures,
    λ full. absurd (omega (arith, full, c.has_room.ensures.0 w.if-not-has_room.false)),
  )
]

last_is : (c : After-raised-next) → c.self.inside.last ≡ c.tries.self.account.last
last_is c = sym c.self.invariant.last ∙ ap (λ v. v.account.last) c.self.view_is

raises : (c : After-raised-next) → c.raised-next.result ≡ raised c.args.self.now.budget.bounds c.tries.self.account.last c.args.amount
raises c =
    c.raised-next.ensures
    ∙ ap (λ (b : BoundsValue). raised b c.self.inside.last c.args.amount) (ap (λ b. b.bounds) (c.budget.view_is ∙ sym c.requires))
    ∙ ap (λ last. raised c.args.self.now.budget.bounds last c.args.amount) (last_is c)

pub returns-then-exchange-clause-raised : goal.returns-then-exchange-clause-raised
returns-then-exchange-clause-raised c =
    let at = (goal.at.returns-then-exchange-clause-raised c).After-raised-next in
    let room : c.tries.self.budget.bounds.room ≡ c.args.self.now.budget.bounds.room =
    ap (λ b. b.bounds.room) c.tries.invariant.0.budget in
    won_raise c.tries.turn c.args.self.now c.tries.self c.exchange.new.self c.tries.invariant.0 c.if-exchange.ensures.budget
    c.args.amount c.change_between.result c.tries-test.true
    (c.if-exchange.ensures.won refl ∙ ap (λ next. after_move next c.tries.self.account) (raises at))
    (rw (← raises at, ← last_is at) c.change_between.ensures)
    (omega (arith, room, c.has_room-in-tries.ensures.0 c.if-not-has_room-2.false))
