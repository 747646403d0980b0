-- Shares of a connection, and that they stay the whole.
use Rattle.std.proofs.Common.{◌≡◌, ⊎_elim, ℕ, zero, suc, true, false, List, [], ◌∷◌, ◌++◌, ◌<◌, ◌≤◌, ◌+◌, ◌-◌, ◌*◌, ◌^◌, set, length}
use Rattle.std.proofs.Common.{refl, sym, ap, ◌∙◌, subst, arith}
use Rattle.std.specs.List.{All, sum_by}
use Rattle.std.proofs.lemmas.List.Elements.{All-append, All-cons, All-head, All-nil, All-tail}
use Rattle.std.proofs.lemmas.List.Sums.{sum_by-append, sum_by-cons}
use Rattle.std.proofs.lemmas.List.{length-append, length-map}
use Rattle.std.proofs.Math.Nat.{pow-succ'}
use Rattle.std.proofs.lemmas.Nat.{pow_pos}
use mathlib.Core.Option.{some, some-injective, some-ne-none}
use lib.ListN.{get_elem?}
use Rattle.atomic_table.proofs.Lists.{at_set}
use Rattle.ob_shared_connection.specs.Ruled.{AreShared, HasShare, both_views, new_view, sharing_view, spent_view}
use Rattle.ob_shared_connection.specs.Values.{IsWhole, halves, halvings, parts_in}
use Rattle.ob_shared_connection.specs.declared.view.View.{View}
use Rattle.ob_shared_connection.proofs.Lists.{at_more, sum_set}

-- none of these parts was halved more often
abbrev AreWithin : ℕ → List ℕ → Type 0
AreWithin fine share = All (λ halved. halved ≤ fine) share

-- how many parts a part is
abbrev pub parts : ℕ → ℕ → ℕ
parts fine halved = 2 ^ (fine - halved)

double : (fine halved : ℕ) → halved ≤ fine → parts (suc fine) halved ≡ 2 * parts fine halved
double fine halved within =
    let one : suc fine - halved ≡ suc (fine - halved) = omega (arith, within) in
    ap (λ (n : ℕ). 2 ^ n) one ∙ pow-succ' 2 (fine - halved)

-- if the whole is cut twice as finely, each share has twice as many parts
parts_doubled : (fine : ℕ) (share : List ℕ) → AreWithin fine share → parts_in (suc fine) share ≡ 2 * parts_in fine share
parts_doubled fine [] within = refl
parts_doubled fine (halved ∷ share) within =
    let here = double fine halved (All-head (λ h. h ≤ fine) halved share within) in
    let rest = parts_doubled fine share (All-tail (λ h. h ≤ fine) halved share within) in
    let all = sum_by-cons (parts (suc fine)) halved share in
    let before = sum_by-cons (parts fine) halved share in
    omega arith

-- and half of it as many as it had
parts_halved : (fine : ℕ) (share : List ℕ) → parts_in (suc fine) (halves share) ≡ parts_in fine share
parts_halved fine [] = refl
parts_halved fine (halved ∷ share) =
    let less : suc fine - (halved + 1) ≡ fine - halved = omega arith in
    let here : parts (suc fine) (halved + 1) ≡ parts fine halved = ap (λ (n : ℕ). 2 ^ n) less in
    let rest = parts_halved fine share in
    let all = sum_by-cons (parts (suc fine)) (halved + 1) (halves share) in
    let before = sum_by-cons (parts fine) halved share in
    omega arith

within_more : (fine more : ℕ) (share : List ℕ) → fine ≤ more → AreWithin fine share → AreWithin more share
within_more fine more [] further within = All-nil (λ h. h ≤ more)
within_more fine more (halved ∷ share) further within =
    let here = All-head (λ h. h ≤ fine) halved share within in
    All-cons (λ h. h ≤ more) halved share (omega (arith, here))
    (within_more fine more share further (All-tail (λ h. h ≤ fine) halved share within))

within_halves : (fine : ℕ) (share : List ℕ) → AreWithin fine share → AreWithin (suc fine) (halves share)
within_halves fine [] within = All-nil (λ h. h ≤ suc fine)
within_halves fine (halved ∷ share) within =
    let here = All-head (λ h. h ≤ fine) halved share within in
    All-cons (λ h. h ≤ suc fine) (halved + 1) (halves share) (omega (arith, here))
    (within_halves fine share (All-tail (λ h. h ≤ fine) halved share within))

within_halvings : (share : List ℕ) → AreWithin (halvings share) share
within_halvings [] = All-nil (λ h. h ≤ 0)
within_halvings (halved ∷ share) =
    let all = sum_by-cons (λ (h : ℕ). h) halved share in
    All-cons (λ h. h ≤ halvings (halved ∷ share)) halved share (omega arith)
    (within_more (halvings share) (halvings (halved ∷ share)) share (omega arith) (within_halvings share))

-- a share that is some has a part
some_part : (fine : ℕ) (share : List ℕ) → 0 < length share → 0 < parts_in fine share
some_part fine [] much = absurd (omega arith)
some_part fine (halved ∷ share) much =
    let here = pow_pos (fine - halved) in
    let all = sum_by-cons (parts fine) halved share in
    omega arith

-- how many parts the share of a seat has
abbrev pub share_in : ℕ → View → ℕ
share_in fine view = parts_in fine view.share

-- each seat has its share
abbrev EachHas : ℕ → List View → Type 0
EachHas fine views = (seat : ℕ) (view : View) → get_elem? views seat ≡ some view → HasShare fine view

finer : (fine : ℕ) (view : View) → HasShare fine view → HasShare (suc fine) view
finer fine view has = record {
  within = within_more fine (suc fine) view.share (omega arith) has.within;
  some = has.some;
  there = has.there;
}

sum_doubled : (fine : ℕ) (views : List View) → EachHas fine views
    → sum_by (share_in (suc fine)) views ≡ 2 * sum_by (share_in fine) views
sum_doubled fine [] each = refl
sum_doubled fine (view ∷ views) each =
    let here = parts_doubled fine view.share (each 0 view refl).within in
    let rest = sum_doubled fine views (λ seat other at. each (suc seat) other at) in
    let all = sum_by-cons (share_in (suc fine)) view views in
    let before = sum_by-cons (share_in fine) view views in
    omega arith

-- shares may be cut as finely as one likes
pub shared_finer : (views : List View) (shares : AreShared views) (more : ℕ)
    → (fine : ℕ) × (fine ≡ shares.fine + more) × EachHas fine views × (sum_by (share_in fine) views ≡ 2 ^ fine)
shared_finer views shares zero = (shares.fine, omega arith, shares.each, shares.whole)
shared_finer views shares (suc more) =
    let before = shared_finer views shares more in
    let fine = before.0 in
    let is = before.1 in
    let doubled = sum_doubled fine views before.2 in
    let whole = before.3 in
    let next = pow-succ' 2 fine in (
      suc fine,
      omega arith,
      λ seat view at. finer fine view (before.2 seat view at),
      omega arith,
    )

-- and so may one share alone
parts_finer : (fine : ℕ) (share : List ℕ) → AreWithin fine share → parts_in fine share ≡ 2 ^ fine → (more : ℕ)
    → (next : ℕ) × (next ≡ fine + more) × AreWithin next share × (parts_in next share ≡ 2 ^ next)
parts_finer fine share within whole zero = (fine, omega arith, within, whole)
parts_finer fine share within whole (suc more) =
    let before = parts_finer fine share within whole more in
    let next = before.0 in
    let is = before.1 in
    let doubled = parts_doubled next share before.2 in
    let all = before.3 in
    let power = pow-succ' 2 next in (
      suc next,
      omega arith,
      within_more next (suc next) share (omega arith) before.2,
      omega arith,
    )

-- one seat knows anew, and has the share that it had
pub shares_set : (views : List View) (id : ℕ) (old new : View) → get_elem? views id ≡ some old → new.share ≡ old.share
    → ((fine : ℕ) → HasShare fine old → HasShare fine new) → AreShared views → AreShared (set views id new)
shares_set views id old new at same has shares =
    let fine = shares.fine in
    let sum = sum_set (share_in fine) views id old new at in
    let parts_same : share_in fine new ≡ share_in fine old = ap (parts_in fine) same in
    let whole = shares.whole in
    record {
      fine = fine;
      each = λ seat view there. ⊎_elim
          (λ here. subst (λ (v : View). HasShare fine v) here.1 (has fine (shares.each id old at)))
          (λ apart. shares.each seat view apart.1) (at_set views id seat new view there);
      whole = omega arith;
    }

-- if it is there as it was
pub shares_kept : (views : List View) (id : ℕ) (old new : View) → get_elem? views id ≡ some old
    → new.share ≡ old.share → new.spent ≡ old.spent → new.named ≡ old.named → AreShared views
    → AreShared (set views id new)
shares_kept views id old new at share spent named shares =
    shares_set views id old new at share (λ fine has. record {
      within = subst (AreWithin fine) (sym share) has.within;
      some = λ there. subst (λ (all : List ℕ). 0 < length all) (sym share) (has.some (sym spent ∙ there));
      there = λ is. spent ∙ has.there (sym named ∙ is);
    }) shares

-- a seat is cut in two
pub shares_cut : (views : List View) (id : ℕ) (view : View) → get_elem? views id ≡ some view → view.spent ≡ false
    → AreShared views → AreShared (set views id (sharing_view view) ++ new_view (sharing_view view) ∷ [])
shares_cut views id view at there shares =
    let fine = shares.fine in
    let left = sharing_view view in
    let right = new_view left in
    let mine = shares.each id view at in
    let doubled = sum_doubled fine views shares.each in
    let was = parts_doubled fine view.share mine.within in
    let half = parts_halved fine view.share in
    let sum = sum_set (share_in (suc fine)) views id view left at in
    let more = sum_by-append (share_in (suc fine)) (set views id left) (right ∷ []) in
    let whole = shares.whole in
    let power = pow-succ' 2 fine in
    let long : length (halves view.share) ≡ length view.share = length-map view.share (λ (halved : ℕ). halved + 1) in
    let some : 0 < length (halves view.share) = subst (λ (n : ℕ). 0 < n) (sym long) (mine.some there) in
    let within = within_halves fine view.share mine.within in
    record {
      fine = suc fine;
      each = λ seat other at_other. ⊎_elim
          (λ before. ⊎_elim
          (λ here. subst (λ (v : View). HasShare (suc fine) v) here.1
          (record { within = within; some = λ _. some; there = mine.there }))
          (λ apart. finer fine other (shares.each seat other apart.1)) (at_set views id seat left other before))
          (λ last. subst (λ (v : View). HasShare (suc fine) v) last.1
          (record { within = within; some = λ _. some; there = λ _. refl }))
          (at_more (set views id left) right other seat at_other);
      whole = omega arith;
    }

-- a seat takes another one in
pub shares_taken : (views : List View) (id : ℕ) (view : View) (other : ℕ) (theirs : View)
    → get_elem? views id ≡ some view → get_elem? (set views id (both_views view theirs)) other ≡ some theirs
    → get_elem? views other ≡ some theirs
    → view.spent ≡ false → AreShared views → AreShared (set (set views id (both_views view theirs)) other spent_view)
shares_taken views id view other theirs at then_at their_at there shares =
    let fine = shares.fine in
    let both = both_views view theirs in
    let mine = shares.each id view at in
    let next = shares.each other theirs their_at in
    let sum = sum_set (share_in fine) views id view both at in
    let their_sum = sum_set (share_in fine) (set views id both) other theirs spent_view then_at in
    let parts_both : parts_in fine (view.share ++ theirs.share) ≡ parts_in fine view.share + parts_in fine theirs.share =
    sum_by-append (parts fine) view.share theirs.share in
    let long = length-append view.share theirs.share in
    let some = mine.some there in
    let whole = shares.whole in
    record {
      fine = fine;
      each = λ seat last at_last. ⊎_elim
          (λ here. subst (λ (v : View). HasShare fine v) here.1 (record {
            within = All-nil (λ h. h ≤ fine);
            some = λ never. absurd (cc never);
            there = λ never. absurd (cc never);
          }))
          (λ apart. ⊎_elim
          (λ here. subst (λ (v : View). HasShare fine v) here.1 (record {
            within = All-append (λ h. h ≤ fine) view.share theirs.share mine.within next.within;
            some = λ _. omega arith;
            there = mine.there;
          }))
          (λ others. shares.each seat last others.1) (at_set views id seat both last apart.1))
          (at_set (set views id both) other seat spent_view last at_last);
      whole = omega arith;
    }

-- what adds up to nothing has no part
nothing_at : (f : View → ℕ) (views : List View) → sum_by f views ≡ 0 → (seat : ℕ) (view : View)
    → get_elem? views seat ≡ some view → f view ≡ 0
nothing_at f [] none seat view at = absurd (some-ne-none view (sym at))
nothing_at f (first ∷ views) none zero view at =
    let all = sum_by-cons f first views in
    ap f (sym (some-injective first view at)) ∙ omega arith
nothing_at f (first ∷ views) none (suc seat) view at =
    let all = sum_by-cons f first views in
    nothing_at f views (omega arith) seat view at

-- if one seat has the whole, no other is that of a handle
pub no_other : (views : List View) (id : ℕ) (view : View) → get_elem? views id ≡ some view → AreShared views
    → IsWhole view.share → (seat : ℕ) (other : View) → get_elem? (set views id spent_view) seat ≡ some other
    → other.named ≡ true → ⊥
no_other views id view at shares whole seat other at_other named =
    let much = shared_finer views shares (halvings view.share) in
    let fine = much.0 in
    let mine = parts_finer (halvings view.share) view.share (within_halvings view.share) whole shares.fine in
    let is_fine = much.1 in
    let is_mine = mine.1 in
    let same : mine.0 ≡ fine = omega arith in
    let all_mine : parts_in fine view.share ≡ 2 ^ fine = subst (λ (n : ℕ). parts_in n view.share ≡ 2 ^ n) same mine.3 in
    let sum = sum_set (share_in fine) views id view spent_view at in
    let all = much.3 in
    let none : sum_by (share_in fine) (set views id spent_view) ≡ 0 = omega arith in
    let nothing = nothing_at (share_in fine) (set views id spent_view) none seat other at_other in
    ⊎_elim (λ here. cc (ap (λ (v : View). v.named) here.1, named))
    (λ apart. (let has = much.2 seat other apart.1 in
    let some = some_part fine other.share (has.some (has.there named)) in
    omega arith))
    (at_set views id seat spent_view other at_other)
