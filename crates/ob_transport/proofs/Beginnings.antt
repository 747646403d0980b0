-- The beginning of blocks, taken block by block.
use Rattle.std.proofs.Common.{◌≡◌, ℕ, zero, suc, ◌-◌, ◌<◌, min, List, [], ◌∷◌, ◌++◌, length, take, drop, get_or}
use Rattle.std.proofs.Common.{sym, ap, ◌∙◌, arith, append_assoc}
use Rattle.std.specs.List.{concat}
use Rattle.std.proofs.Math.Seq.{drop-cons, take-nil}

-- a beginning of two lists is one of the first, and what is left of it one of the second
take_two : (n : ℕ) (xs ys : List ℕ) → take n (xs ++ ys) ≡ take (min n (length xs)) xs ++ take (n - min n (length xs)) ys
take_two n [] ys = ap (λ m. take m ys) (all n)
    ∙ sym (ap (λ (none : List ℕ). none ++ take (n - min n 0) ys) (take-nil (min n 0)))
  where
    all : (n : ℕ) → n ≡ n - min n 0
    all n = omega arith
take_two zero (x ∷ xs) ys = sym (ap (λ m. take m (x ∷ xs) ++ take (0 - m) ys) (none (suc (length xs))))
  where
    none : (n : ℕ) → min 0 n ≡ 0
    none n = omega arith
take_two (suc n) (x ∷ xs) ys =
    ap (λ more. x ∷ more) (take_two n xs ys)
    ∙ ap (λ m. x ∷ (take (min n (length xs)) xs ++ take m ys)) (less n (length xs))
    ∙ sym (ap (λ m. take m (x ∷ xs) ++ take (suc n - min (suc n) (suc (length xs))) ys) (one_more n (length xs)))
  where
    less : (n m : ℕ) → n - min n m ≡ suc n - min (suc n) (suc m)
    less n m = omega arith

    one_more : (n m : ℕ) → min (suc n) (suc m) ≡ suc (min n m)
    one_more n m = omega arith

-- one more block
pub one_more_block : (bytes : List ℕ) (left i : ℕ) (blocks : List (List ℕ)) (all block d : List ℕ) →
    i < length blocks → block ≡ get_or blocks i d →
    bytes ++ take left (concat (drop i blocks)) ≡ all →
    (bytes ++ take (min left (length block)) block)
    ++ take (left - min left (length block)) (concat (drop (suc i) blocks)) ≡ all
one_more_block bytes left i blocks all block d within is so_far =
    append_assoc bytes (take (min left (length block)) block)
    (take (left - min left (length block)) (concat (drop (suc i) blocks)))
    ∙ ap (λ more. bytes ++ more) (sym (take_two left block (concat (drop (suc i) blocks))))
    ∙ ap (λ first. bytes ++ take left (first ++ concat (drop (suc i) blocks))) is
    ∙ sym (ap (λ rest. bytes ++ take left (concat rest)) (drop-cons blocks i d within))
    ∙ so_far
