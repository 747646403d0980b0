-- One connection after another is handed a message.
use Rattle.std.proofs.Common.{◌≡◌, ◌≢◌, refl, sym, ap, ◌∙◌, arith, ℕ, ◌+◌, ◌<◌, ◌≤◌, List, [], ◌∷◌, ◌++◌, length}
use Rattle.std.proofs.Common.{below_more, Bool, cond, set, length-append, zero, suc}
use Rattle.std.specs.Prelude.{Result, Some, slice_get, count_by}
use Rattle.std.proofs.lemmas.List.Sums.{sum_by-append}
use Rattle.std.proofs.lemmas.Option.{same_Some, slice_get_within}
use Rattle.ob_connection.specs.Connected.{Connected}
use Rattle.ob_patterns.specs.Broadcasting.{AreHanded, IsHanded, is_handed, is_refused, is_unwritable}
use Rattle.ob_patterns.specs.declared.broadcasting.LeftOut.{LeftOut}
use Rattle.ob_patterns.specs.declared.broadcasting.Reached.{Reached}

-- what a list has at a place that was set
get-set_same : {X : Type 0} (xs : List X) (i : ℕ) (x : X) → i < length xs → slice_get (set xs i x) i ≡ Some x
get-set_same [] i x within = absurd (omega arith)
get-set_same (y ∷ ys) zero x within = refl
get-set_same (y ∷ ys) (suc i) x within = get-set_same ys i x (omega arith)

-- and at another
get-set_other : {X : Type 0} (xs : List X) (i k : ℕ) (x : X) → k ≢ i → slice_get (set xs i x) k ≡ slice_get xs k
get-set_other [] i k x other = refl
get-set_other (y ∷ ys) zero zero x other = absurd (other refl)
get-set_other (y ∷ ys) zero (suc k) x other = refl
get-set_other (y ∷ ys) (suc i) zero x other = refl
get-set_other (y ∷ ys) (suc i) (suc k) x other = get-set_other ys i k x (λ same. other (ap suc same))

-- what a list has with one element more
get-first : {X : Type 0} (xs : List X) (x : X) (k : ℕ) → k < length xs → slice_get (xs ++ x ∷ []) k ≡ slice_get xs k
get-first [] x k within = absurd (omega arith)
get-first (y ∷ ys) x zero within = refl
get-first (y ∷ ys) x (suc k) within = get-first ys x k (omega arith)

get-last : {X : Type 0} (xs : List X) (x : X) → slice_get (xs ++ x ∷ []) (length xs) ≡ Some x
get-last [] x = refl
get-last (y ∷ ys) x = get-last ys x

-- the connections so far: each before this place was handed the bytes or left out, and the rest are as they were
pub record HandsOn (old : List Connected) (bytes : List ℕ) (reached : Reached) (place : ℕ) (now : List Connected)
    : Type 0 where
  pub handed : List (Result Unit LeftOut)
  pub so_far : length handed ≡ place
  pub each : AreHanded old bytes handed now
  pub rest : (k : ℕ) → place ≤ k → slice_get now k ≡ slice_get old k
  pub counts_got : reached.got ≡ count_by is_handed handed
  pub counts_unwritable : reached.unwritable ≡ count_by is_unwritable handed
  pub counts_refused : reached.refused ≡ count_by is_refused handed

-- whom it reached, with one connection more
abbrev pub with_one_more : Reached → Result Unit LeftOut → Reached
with_one_more reached result = record {
  got = reached.got + cond (is_handed result) 1 0;
  unwritable = reached.unwritable + cond (is_unwritable result) 1 0;
  refused = reached.refused + cond (is_refused result) 1 0;
}

module _ {old now : List Connected} {bytes : List ℕ} {reached : Reached} {place : ℕ} (item new : Connected)
    (result : Result Unit LeftOut) (on : HandsOn old bytes reached place now)
    (found : slice_get now place ≡ Some item) (one : IsHanded item bytes result new) where
  abbrev handed : List (Result Unit LeftOut)
  handed = on.handed ++ result ∷ []

  -- what is said of one place
  abbrev SaysAt : ℕ → Type 0
  SaysAt k =
      (before after : Connected) (said : Result Unit LeftOut) → slice_get old k ≡ Some before → slice_get handed k ≡ Some said →
      slice_get (set now place new) k ≡ Some after → IsHanded before bytes said after

  earlier : (k : ℕ) → k < place → SaysAt k
  earlier k within before after said was is then =
      let other : k ≢ place = omega arith in
      on.each k before after said was
      (sym (get-first on.handed result k (omega (arith, on.so_far, within))) ∙ is)
      (sym (get-set_other now place k new other) ∙ then)

  here : SaysAt place
  here before after said was is then =
      let same_before = same_Some _ _ (sym found ∙ on.rest place (omega arith) ∙ was) in
      let last = get-last on.handed result in
      let same_said = same_Some _ _ (sym (rw on.so_far at last) ∙ is) in
      let within = slice_get_within now place item found in
      let same_after = same_Some _ _ (sym (get-set_same now place new within) ∙ then) in
      rw (← same_before, ← same_said, ← same_after) one

  each_more : AreHanded old bytes handed (set now place new)
  each_more k before after said was is then =
      let within = slice_get_within handed k said is in
      below_more SaysAt place earlier here k
      (omega (arith, within, length-append on.handed (result ∷ []), on.so_far)) before after said was is then

  -- a count of what is so of each of them, with one more
  counts_more : (is : Result Unit LeftOut → Bool) {before : ℕ} → before ≡ count_by is on.handed →
      before + cond (is result) 1 0 ≡ count_by is handed
  counts_more is counts = omega (
    arith,
    counts,
    sum_by-append (λ (said : Result Unit LeftOut). cond (is said) 1 0) on.handed (result ∷ []),
  )

  -- one more
  pub one_handed : {more : Reached} → more ≡ with_one_more reached result →
      HandsOn old bytes more (place + 1) (set now place new)
  one_handed is = rw is record {
    handed = handed;
    so_far = omega (arith, length-append on.handed (result ∷ []), on.so_far);
    each = each_more;
    rest = λ k within.
        (let other : k ≢ place = omega arith in get-set_other now place k new other) ∙ on.rest k (omega arith);
    counts_got = counts_more is_handed on.counts_got;
    counts_unwritable = counts_more is_unwritable on.counts_unwritable;
    counts_refused = counts_more is_refused on.counts_refused;
  }
