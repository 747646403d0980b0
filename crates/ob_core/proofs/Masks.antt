-- Masks that have a bit in common.
use Rattle.std.proofs.Common.{◌≡◌, ◌≢◌, ℕ, ◌+◌, ◌<◌, Bool, true, false, not, ◌||◌, eqb, List, [], ◌∷◌, length, get_or}
use Rattle.std.proofs.Common.{drop, map, bit_and, bit_or, refl, sym, ap, ◌∙◌, arith, add-one}
use Rattle.std.specs.Int.{bit_at}
use Rattle.std.specs.List.{list_any}
use Rattle.std.proofs.Math.Seq.{drop-cons}
use Rattle.std.proofs.lemmas.Bool.Decides.{nat_tests}
use Rattle.std.proofs.lemmas.Nat.{and_or_apart}
use Rattle.std.proofs.lemmas.Nat.Bits.{bit_at_and, bit_at_or, bit_at-zero, same_from_bits}
use Rattle.ob_core.specs.World.{share_a_bit, any_overlap}
use Rattle.ob_core.specs.declared.lane_start.LaneStart.{LaneStart}

-- if two masks together have no bit of a third, neither has the second
apart_of_both : (a b other : ℕ) → bit_and (bit_or a b) other ≡ 0 → bit_and b other ≡ 0
apart_of_both a b other none =
    same_from_bits (bit_and b other) 0 (λ i.
    let at_i : bit_at (bit_and (bit_or a b) other) i ≡ bit_at 0 i = ap (λ n. bit_at n i) none in
    omega (arith, bit_at_and b other i, bit_at_and (bit_or a b) other i, bit_at_or a b i, bit_at-zero i, at_i))

-- a test on three masks, by what is known of them
made_up-cases : (both first second : ℕ) → (second ≡ 0 → both ≡ first) → (both ≡ 0 → second ≡ 0)
    → not (eqb both 0) ≡ (not (eqb first 0) || not (eqb second 0))
made_up-cases both first second only_first neither = grind (arith, nat_tests)

-- two masks together have a bit of a third exactly if one of them has
share_a_bit-or : (a b other : ℕ) → share_a_bit (bit_or a b) other ≡ (share_a_bit a other || share_a_bit b other)
share_a_bit-or a b other =
    made_up-cases (bit_and (bit_or a b) other) (bit_and a other) (bit_and b other) (and_or_apart other a b)
    (apart_of_both a b other)

-- the order of four tests
or_swap : (p q r s : Bool) → ((p || q) || (r || s)) ≡ ((p || r) || (q || s))
or_swap true q r s = refl
or_swap false true true s = refl
or_swap false true false s = refl
or_swap false false r s = refl

or_assoc : (p q r : Bool) → (p || (q || r)) ≡ ((p || q) || r)
or_assoc true q r = refl
or_assoc false q r = refl

list_any-or : (a b : ℕ) (masks : List ℕ)
    → list_any (share_a_bit (bit_or a b)) masks ≡ (list_any (share_a_bit a) masks || list_any (share_a_bit b) masks)
list_any-or a b [] = refl
list_any-or a b (mask ∷ masks) =
    rw (share_a_bit-or a b mask, list_any-or a b masks)
    (or_swap (share_a_bit a mask) (share_a_bit b mask) (list_any (share_a_bit a) masks)
    (list_any (share_a_bit b) masks))

-- two masks that are apart overlap the rest as one mask does
pub any_overlap-or : (a b : ℕ) (masks : List ℕ) → bit_and a b ≡ 0
    → any_overlap (a ∷ b ∷ masks) ≡ any_overlap (bit_or a b ∷ masks)
any_overlap-or a b masks apart =
    rw (apart, list_any-or a b masks)
    (or_assoc (list_any (share_a_bit a) masks) (list_any (share_a_bit b) masks) (any_overlap masks))

-- two masks that are not apart overlap
pub any_overlap-shared : (a b : ℕ) (masks : List ℕ) → bit_and a b ≢ 0 → any_overlap (a ∷ b ∷ masks) ≡ true
any_overlap-shared a b masks shared = let shows : share_a_bit a b ≡ true = grind (arith, nat_tests) in rw shows

-- the masks of the lanes from one on
pub masks-drop : (starts : List LaneStart) (i : ℕ) (d : LaneStart) → i < length starts
    → map (λ start. start.bits) (drop i starts) ≡ (get_or starts i d).bits ∷ map (λ start. start.bits)
    (drop (i + 1) starts)
masks-drop starts i d within = rw (add-one, drop-cons starts i d)

-- one more lane whose mask is apart from those before
pub masks_more : (taken : ℕ) (starts : List LaneStart) (i : ℕ) (d : LaneStart) → i < length starts
    → bit_and taken (get_or starts i d).bits ≡ 0
    → any_overlap (bit_or taken (get_or starts i d).bits ∷ map (λ start. start.bits) (drop (i + 1) starts))
    ≡ any_overlap (taken ∷ map (λ start. start.bits) (drop i starts))
masks_more taken starts i d within apart =
    sym (ap (λ masks. any_overlap (taken ∷ masks)) (masks-drop starts i d within) ∙ any_overlap-or taken
    (get_or starts i d).bits (map (λ start. start.bits) (drop (i + 1) starts)) apart)

-- one more lane whose mask is not
pub masks_shared : (taken : ℕ) (starts : List LaneStart) (i : ℕ) (d : LaneStart) → i < length starts
    → bit_and taken (get_or starts i d).bits ≢ 0
    → any_overlap (taken ∷ map (λ start. start.bits) (drop i starts)) ≡ true
masks_shared taken starts i d within shared =
    ap (λ masks. any_overlap (taken ∷ masks)) (masks-drop starts i d within) ∙ any_overlap-shared taken
    (get_or starts i d).bits (map (λ start. start.bits) (drop (i + 1) starts)) shared
