-- What the word holds when one seat is for all.
use Rattle.std.proofs.Common.{◌≡◌, ℕ, ◌+◌, ◌≤◌, List, [], ◌∷◌, sym, refl, ap, ◌∙◌, suc, zero, arith, get_or}
use mathlib.Core.Option.{some, some-injective, some-ne-none}
use lib.ListN.{get_elem?}
use Rattle.std.specs.List.{All, sum_by}
use Rattle.std.proofs.lemmas.List.Sums.{sum_by-cons}
use Rattle.std.proofs.lemmas.List.Elements.{All-head, All-tail, All-weaker}
use Rattle.atomic_table.specs.declared.shared.Seat.{Seat as TableSeat}
use Rattle.ob_budget.specs.Account.{most_seats, is_pressed, total_of, standing}
use Rattle.ob_budget.specs.Bounds.{BoundsValue}
use Rattle.ob_budget.specs.Ruled.{IsEnd, IsIdle}
use Rattle.ob_budget.specs.declared.account.Account.{Account}
use Rattle.ob_budget.proofs.Moves.{held_of, seats_of, began_of, ended_of}
use Rattle.ob_budget.proofs.Sums.{one-le-sum}

-- what nobody has but who has a seat, only one has who has all seats
none-else : (f : Account → ℕ) → (views : List Account) → All (λ a. a.seats ≡ 0 → f a ≡ 0) views
    → sum_by seats_of views ≡ 0 → sum_by f views ≡ 0
none-else f [] idle none = refl
none-else f (x ∷ xs) idle none =
    let here : x.seats ≡ 0 = omega (arith, none, sum_by-cons seats_of x xs) in
    let later : sum_by seats_of xs ≡ 0 = omega (arith, none, sum_by-cons seats_of x xs) in
    omega (
      arith,
      sum_by-cons f x xs,
      All-head (λ (a : Account). a.seats ≡ 0 → f a ≡ 0) x xs idle here,
      none-else f xs (All-tail (λ (a : Account). a.seats ≡ 0 → f a ≡ 0) x xs idle) later,
    )

only : (f : Account → ℕ) (views : List Account) (i : ℕ) (account : Account) → All (λ a. a.seats ≡ 0 → f a ≡ 0) views
    → get_elem? views i ≡ some account → sum_by seats_of views ≡ account.seats → sum_by f views ≡ f account
only f [] i account idle at all = absurd (some-ne-none account (sym at))
only f (x ∷ xs) zero account idle at all =
    let is : x ≡ account = some-injective x account at in
    let none : sum_by seats_of xs ≡ 0 = omega (arith, all, ap seats_of is, sum_by-cons seats_of x xs) in
    omega (arith, ap f is, sum_by-cons f x xs, none-else f xs (All-tail (λ (a : Account). a.seats ≡ 0 → f a ≡ 0) x xs idle) none)
only f (x ∷ xs) (suc i) account idle at all =
    let most = one-le-sum seats_of xs i account at in
    let here : x.seats ≡ 0 = omega (arith, all, most, sum_by-cons seats_of x xs) in
    let later : sum_by seats_of xs ≡ account.seats = omega (arith, all, most, sum_by-cons seats_of x xs) in
    omega (
      arith,
      sum_by-cons f x xs,
      All-head (λ (a : Account). a.seats ≡ 0 → f a ≡ 0) x xs idle here,
      only f xs i account (All-tail (λ (a : Account). a.seats ≡ 0 → f a ≡ 0) x xs idle) at later,
    )

module _ (bounds : BoundsValue) (seat : TableSeat (Unit {0}) Account) (word : ℕ) (end : IsEnd bounds seat word)
    (whole : most_seats ≤ seat.me.0.seats) where
  abbrev views : List Account
  views = end.state.views

  abbrev ended : ℕ
  ended = get_or end.state.words 8 0

  all_seats : sum_by seats_of views ≡ seat.me.0.seats
  all_seats = omega (arith, whole, end.ruled.keeps.seats, one-le-sum seats_of views seat.id seat.me.0 end.at)

  only_this : (f : Account → ℕ) → ((a : Account) → IsIdle a → a.seats ≡ 0 → f a ≡ 0) → sum_by f views ≡ f seat.me.0
  only_this f idle =
      only f views seat.id seat.me.0 (All-weaker IsIdle (λ a. a.seats ≡ 0 → f a ≡ 0) idle views end.ruled.keeps.idle) end.at
      all_seats

  -- the total is what the one seat holds
  pub total_left : total_of word ≡ seat.me.0.held
  total_left =
      ap total_of (sym end.word_is) ∙ end.ruled.keeps.sum ∙ only_this held_of (λ a idle. idle.held)

  -- and it has told all turns of pressure
  pub told_all : seat.me.0.began ≡ seat.me.0.ended + standing (is_pressed word)
  told_all =
      let is : standing (is_pressed ended) ≡ standing (is_pressed word) = ap (λ w. standing (is_pressed w)) end.word_is in
      let began = only_this began_of (λ a idle. idle.began) in
      let told = only_this ended_of (λ a idle. idle.ended) in
      omega (arith, is, began, told, end.ruled.keeps.told)
