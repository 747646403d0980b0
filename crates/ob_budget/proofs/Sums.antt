-- Sums over lists of which one element changes, and what holds of all elements.
use Rattle.std.proofs.Common.{◌≡◌, ℕ, zero, suc, ◌+◌, ◌≤◌, ◌<◌, List, [], ◌∷◌, length, set, get_or, sym, ap, subst, arith}
use mathlib.Core.Option.{some, some-injective, some-ne-none}
use lib.ListN.{get_elem?}
use Rattle.std.specs.List.{All, sum_by}
use Rattle.std.proofs.lemmas.List.Sums.{sum_by-cons}

module _ {A : Type 0} where
  pub at-within : (l : List A) (i : ℕ) (a : A) → get_elem? l i ≡ some a → i < length l
  at-within [] i a e = absurd (some-ne-none a (sym e))
  at-within (x ∷ xs) zero a e = omega arith
  at-within (x ∷ xs) (suc i) a e = omega (arith, at-within xs i a e)

  at-get : (l : List A) (i : ℕ) (a d : A) → get_elem? l i ≡ some a → get_or l i d ≡ a
  at-get [] i a d e = absurd (some-ne-none a (sym e))
  at-get (x ∷ xs) zero a d e = some-injective x a e
  at-get (x ∷ xs) (suc i) a d e = at-get xs i a d e

  -- what holds of each holds of the one
  pub of-one : (P : A → Type 0) (l : List A) (i : ℕ) (a : A) → All P l → get_elem? l i ≡ some a → P a
  of-one P l i a all e = subst P (at-get l i a a e) (all i a (at-within l i a e))

  -- what holds of one thing holds of the list of it alone
  pub All-one : (P : A → Type 0) (x : A) → P x → All P (x ∷ [])
  All-one P x holds zero d within = holds
  All-one P x holds (suc k) d within = absurd (omega arith)

  module _ (f : A → ℕ) where
    pub sum-set : (l : List A) (i : ℕ) (old new : A) → get_elem? l i ≡ some old
        → sum_by f (set l i new) + f old ≡ sum_by f l + f new
    sum-set [] i old new e = absurd (some-ne-none old (sym e))
    sum-set (x ∷ xs) zero old new e =
        omega (arith, ap f (some-injective x old e), sum_by-cons f new xs, sum_by-cons f x xs)
    sum-set (x ∷ xs) (suc i) old new e =
        omega (arith, sum-set xs i old new e, sum_by-cons f x (set xs i new), sum_by-cons f x xs)

    pub one-le-sum : (l : List A) (i : ℕ) (a : A) → get_elem? l i ≡ some a → f a ≤ sum_by f l
    one-le-sum [] i a e = absurd (some-ne-none a (sym e))
    one-le-sum (x ∷ xs) zero a e = omega (arith, ap f (some-injective x a e), sum_by-cons f x xs)
    one-le-sum (x ∷ xs) (suc i) a e = omega (arith, one-le-sum xs i a e, sum_by-cons f x xs)
