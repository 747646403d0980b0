-- Views, read by the table's way to index a list and by std's; and what each seat has made.
use Rattle.std.proofs.Common.{◌≡◌, ◌≢◌, ℕ, zero, suc, true, false, List, [], ◌∷◌, ◌++◌, map, set, cond, eqb, sym, refl, ap, ◌∙◌, Some}
use Rattle.std.proofs.Common.{subst, arith}
use Rattle.std.proofs.Math.Dec.{eqb-suc-zero, eqb-zero-suc, eqb-suc-suc}
use Rattle.std.proofs.lemmas.List.{append-nil}
use mathlib.Core.Option.{some, some-injective, some-ne-none}
use lib.ListN.{get_elem?}
use Rattle.std.specs.List.{All, AllPairs, slice_get}
use Rattle.std.proofs.lemmas.List.Elements.{All-nil, All-append, All-head, All-tail, All-weaker}
use Rattle.std.proofs.lemmas.List.Kept.{AllPairs-cons}
use Rattle.ob_lanes.specs.Ruled.{HasEnded, HaveEnded}
use Rattle.ob_lanes.specs.Run.{made_at}
use Rattle.ob_lanes.specs.declared.facts.Ended.{Ended}
use Rattle.ob_lanes.specs.declared.facts.Facts.{Facts}
use Rattle.ob_lanes.specs.declared.facts.Made.{Made}

-- what the table finds, std finds
pub slice_get_elem : {X : Type 0} (xs : List X) (i : ℕ) (x : X) → get_elem? xs i ≡ some x → slice_get xs i ≡ Some x
slice_get_elem [] i x at = absurd (some-ne-none x (sym at))
slice_get_elem (y ∷ ys) zero x at = ap Some (some-injective y x at)
slice_get_elem (y ∷ ys) (suc i) x at = slice_get_elem ys i x at

-- the same of what a function makes of the elements
pub slice_get_map : {X Y : Type 0} (f : X → Y) (xs : List X) (i : ℕ) (x : X) → get_elem? xs i ≡ some x
    → slice_get (map f xs) i ≡ Some (f x)
slice_get_map f [] i x at = absurd (some-ne-none x (sym at))
slice_get_map f (y ∷ ys) zero x at = ap (λ z. Some (f z)) (some-injective y x at)
slice_get_map f (y ∷ ys) (suc i) x at = slice_get_map f ys i x at

-- what the seats have made, once one of them has made more
pub made_at-set : (views : List Facts) (id : ℕ) (old new : Facts) (more : List Made) → get_elem? views id ≡ some old
    → new.made ≡ old.made ++ more
    → (seat : ℕ) → made_at (set views id new) seat ≡ made_at views seat ++ cond (eqb id seat) more []
made_at-set [] id old new more at makes seat = absurd (some-ne-none old (sym at))
made_at-set (v ∷ views) zero old new more at makes zero =
    makes ∙ ap (λ (f : Facts). f.made ++ more) (sym (some-injective v old at))
made_at-set (v ∷ views) zero old new more at makes (suc seat) =
    rw (eqb-zero-suc seat) (sym (append-nil (made_at views seat)))
made_at-set (v ∷ views) (suc id) old new more at makes zero = rw (eqb-suc-zero id) (sym (append-nil v.made))
made_at-set (v ∷ views) (suc id) old new more at makes (suc seat) =
    rw (eqb-suc-suc id seat) (made_at-set views id old new more at makes seat)

-- and once one of them knows more, but has made nothing
pub made_at-kept : (views : List Facts) (id : ℕ) (old new : Facts) → get_elem? views id ≡ some old → new.made ≡ old.made
    → (seat : ℕ) → made_at (set views id new) seat ≡ made_at views seat
made_at-kept [] id old new at makes seat = refl
made_at-kept (v ∷ views) zero old new at makes zero = makes ∙ ap (λ (f : Facts). f.made) (sym (some-injective v old at))
made_at-kept (v ∷ views) zero old new at makes (suc seat) = refl
made_at-kept (v ∷ views) (suc id) old new at makes zero = refl
made_at-kept (v ∷ views) (suc id) old new at makes (suc seat) = made_at-kept views id old new at makes seat

-- what a seat that is there has made
pub made_at-here : (views : List Facts) (id : ℕ) (facts : Facts) → get_elem? views id ≡ some facts
    → made_at views id ≡ facts.made
made_at-here [] id facts at = absurd (some-ne-none facts (sym at))
made_at-here (v ∷ views) zero facts at = ap (λ (f : Facts). f.made) (some-injective v facts at)
made_at-here (v ∷ views) (suc id) facts at = made_at-here views id facts at

-- a new seat has made nothing
pub made_at-new : (views : List Facts) (new : Facts) → new.made ≡ [] → (seat : ℕ)
    → made_at (views ++ new ∷ []) seat ≡ made_at views seat
made_at-new [] new none zero = none
made_at-new [] new none (suc seat) = refl
made_at-new (v ∷ views) new none zero = refl
made_at-new (v ∷ views) new none (suc seat) = made_at-new views new none seat

-- what a function makes of all elements, once another stands for one of which it makes the same
pub map-same : {X Y : Type 0} (f : X → Y) (xs : List X) (i : ℕ) (old new : X) → get_elem? xs i ≡ some old → f new ≡ f old
    → map f (set xs i new) ≡ map f xs
map-same f [] i old new at same = refl
map-same f (x ∷ xs) zero old new at same = ap (λ y. y ∷ map f xs) (same ∙ ap f (sym (some-injective x old at)))
map-same f (x ∷ xs) (suc i) old new at same = ap (λ ys. f x ∷ ys) (map-same f xs i old new at same)

-- a seat that is spent is not one that is not
pub spent-apart : (views : List Facts) (id seat : ℕ) (facts other : Facts) → get_elem? views id ≡ some facts
    → facts.spent ≡ false → get_elem? views seat ≡ some other → other.spent ≡ true → seat ≢ id
spent-apart views id seat facts other at live their_at spent = λ same.
    let is : other ≡ facts = some-injective other facts (sym their_at ∙ ap (get_elem? views) same ∙ at) in
    let wrong : true ≡ false = sym spent ∙ ap (λ (f : Facts). f.spent) is ∙ live in
    absurd (cc)

-- no lane was taken in
pub none_ended : (views : List Facts) (owner : ℕ → ℕ) (seat : ℕ) → HaveEnded views owner seat []
none_ended views owner seat = record {
  placed = [];
  all_of_them = refl;
  apart = λ i j d lt within. absurd (omega (arith, within));
  ended = All-nil (HasEnded views owner seat);
}

-- nor has the first lane taken one in
pub first_ended : (owner : ℕ → ℕ) (first : Facts) → first.taken ≡ [] → (seat : ℕ) (facts : Facts)
    → get_elem? (first ∷ []) seat ≡ some facts → HaveEnded (first ∷ []) owner seat facts.taken
first_ended owner first none zero facts at =
    subst (λ (f : Facts). HaveEnded (first ∷ []) owner 0 f.taken) (some-injective first facts at)
    (subst (HaveEnded (first ∷ []) owner 0) (sym none) (none_ended (first ∷ []) owner 0))
first_ended owner first none (suc seat) facts at = absurd (some-ne-none facts (sym at))

-- the lanes that were taken in have ended still, if all seats that are spent stay
pub ended-stays : (views after : List Facts)
    → ((seat : ℕ) (facts : Facts) → get_elem? views seat ≡ some facts → facts.spent ≡ true
    → get_elem? after seat ≡ some facts)
    → (owner : ℕ → ℕ) (seat : ℕ) (taken : List Ended) → HaveEnded views owner seat taken
    → HaveEnded after owner seat taken
ended-stays views after stays owner seat taken have = record {
  placed = have.placed;
  all_of_them = have.all_of_them;
  apart = have.apart;
  ended = All-weaker (HasEnded views owner seat) (HasEnded after owner seat) (λ its has. record {
    facts = has.facts;
    at = stays its.0 has.facts has.at has.spent;
    spent = has.spent;
    name = has.name;
    made = has.made;
    owned = has.owned;
  }) have.placed have.ended;
}

-- what holds of each element at its place holds once another stands at one of them of which it holds, and once one more
-- stands behind
pub at_set : {X : Type 0} (P : ℕ → X → Type 0) (xs : List X) (i : ℕ) (new : X) → P i new
    → ((k : ℕ) (x : X) → k ≢ i → get_elem? xs k ≡ some x → P k x) → (k : ℕ) (x : X)
    → get_elem? (set xs i new) k ≡ some x → P k x
at_set P [] i new here all zero x at = absurd (some-ne-none x (sym at))
at_set P [] i new here all (suc k) x at = absurd (some-ne-none x (sym at))
at_set P (y ∷ ys) zero new here all zero x at = subst (P 0) (some-injective new x at) here
at_set P (y ∷ ys) zero new here all (suc k) x at = all (suc k) x (λ same. absurd (omega (arith, same))) at
at_set P (y ∷ ys) (suc i) new here all zero x at = all zero x (λ same. absurd (omega (arith, same))) at
at_set P (y ∷ ys) (suc i) new here all (suc k) x at =
    at_set (λ n. P (suc n)) ys i new here (λ n z apart. all (suc n) z (λ same. apart (omega (arith, same)))) k x at

pub at_push : {X : Type 0} (P : ℕ → X → Type 0) (xs : List X) (new : X) → ((k : ℕ) → P k new)
    → ((k : ℕ) (x : X) → get_elem? xs k ≡ some x → P k x) → (k : ℕ) (x : X)
    → get_elem? (xs ++ new ∷ []) k ≡ some x → P k x
at_push P [] new here all zero x at = subst (P 0) (some-injective new x at) (here 0)
at_push P [] new here all (suc k) x at = absurd (some-ne-none x (sym at))
at_push P (y ∷ ys) new here all zero x at = all zero x at
at_push P (y ∷ ys) new here all (suc k) x at =
    at_push (λ n. P (suc n)) ys new (λ n. here (suc n)) (λ n. all (suc n)) k x at

-- two lists of which no two are so, nor one of the first and one of the second
pub AllPairs-append : {X : Type 0} (R : X → X → Type 0) (xs ys : List X) → AllPairs R xs → AllPairs R ys
    → All (λ x. All (R x) ys) xs → AllPairs R (xs ++ ys)
AllPairs-append R [] ys first second across = second
AllPairs-append R (x ∷ xs) ys first second across =
    AllPairs-cons R x (xs ++ ys)
    (All-append (R x) xs ys (λ j d within. first 0 (suc j) d (omega arith) (omega (arith, within)))
    (All-head (λ z. All (R z) ys) x xs across))
    (AllPairs-append R xs ys (λ i j d lt within. first (suc i) (suc j) d (omega (arith, lt)) (omega (arith, within)))
    second (All-tail (λ z. All (R z) ys) x xs across))
