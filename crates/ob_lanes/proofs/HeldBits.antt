-- Masks of one bit and of all bits but one, and the bits of one mask among those of another, by a test and as the
-- machine joins two.
use Rattle.std.proofs.Common.{◌≡◌, ℕ, ◌+◌, ◌*◌, ◌%◌, ◌^◌, ◌<◌, IsTrue, ⊎_elim, ap, arith, zero, suc, ◌≤◌, Bool, true}
use Rattle.std.proofs.Common.{not, ◌||◌, eqb, bit_or, refl, ◌∙◌, subst, get_or}
use Rattle.std.proofs.Math.Nat.{mod-eq_of_lt}
use Rattle.std.proofs.Math.Pow.{pow-lt}
use Rattle.std.proofs.lemmas.Bool.{cases_eq, cases_lt, eqb-true, eqb-false, eq-eqb, not-true, or_cases, or_right}
use Rattle.std.proofs.lemmas.Bool.Decides.{nat_tests}
use Rattle.std.proofs.lemmas.Nat.{pow-add}
use Rattle.std.proofs.lemmas.Nat.Bits.{bit_at-pow_same, bit_at-pow_other, bit_at-lt, bit_at-zero, bit_at_above}
use Rattle.std.proofs.lemmas.Nat.Bits.{bit_at_or, same_from_bits}
use Rattle.std.proofs.lemmas.List.Elements.{All-get_or}
use Rattle.std.proofs.lemmas.List.FromFn.{get_or-range_with_len}
use Rattle.std.proofs.lemmas.List.Sums.{AllPass-from_list_all, list_all-from_AllPass}
use Rattle.std.specs.Int.{bit_at, bit_not, w64}
use Rattle.std.specs.List.{range_with_len}
use Rattle.ob_core.specs.Step.{is_held}
use Rattle.ob_core.specs.declared.lane.Lane.{Lane}
use Rattle.ob_core.specs.World.{is_set, AreAmong}
use Rattle.ob_lanes.specs.Calls.{are_held}

-- a bit that a lane holds has an index below 32
pub held_within : (lane : Lane) (index : ℕ) → IsTrue (is_held lane index) → index < 32
held_within lane index held = grind (arith, nat_tests, held)

up_fits : (index : ℕ) → index < 32 → index + 32 < 64
up_fits index within = omega (arith, within)

-- what a shift of bit 32 by a small number gives
pub shifted : (index : ℕ) → index < 32 → 4294967296 * 2 ^ index % 2 ^ 64 ≡ 2 ^ (index + 32)
shifted index within =
    let fits : 2 ^ (index + 32) < 18446744073709551616 = pow-lt {j = 64} (up_fits index within) in
    let up : 2 ^ (index + 32) ≡ 2 ^ index * 4294967296 = pow-add 2 index 32 in
    omega (arith, mod-eq_of_lt fits)

-- two powers of 2 that are equal have one exponent
same_power : (a b : ℕ) → 2 ^ a ≡ 2 ^ b → a ≡ b
same_power a b same =
    ⊎_elim (λ e. e)
    (λ other. absurd (omega (arith, bit_at-pow_same a, bit_at-pow_other b a other, ap (λ n. bit_at n a) same)))
    (cases_eq a b)

pub same_up : (a b : ℕ) → 2 ^ (a + 32) ≡ 2 ^ (b + 32) → a ≡ b
same_up a b same = omega (arith, same_power (a + 32) (b + 32) same)

-- so have two masks of all bits but one
pub same_others : (a b : ℕ) → a < 32 → b < 32 → bit_not w64 (2 ^ (a + 32)) ≡ bit_not w64 (2 ^ (b + 32)) → a ≡ b
same_others a b first second same =
    let fits : 2 ^ (a + 32) < 18446744073709551616 = pow-lt {j = 64} (up_fits a first) in
    let fits' : 2 ^ (b + 32) < 18446744073709551616 = pow-lt {j = 64} (up_fits b second) in
    same_up a b (omega (arith, same))

-- one bit is at most another exactly if the test finds so
passes : (bit other : ℕ) → bit ≤ other → other < 2 → (not (eqb bit 1) || eqb other 1) ≡ true
passes zero other at_most small = refl
passes (suc bit) other at_most small = or_right (not (eqb (suc bit) 1)) (eqb other 1) (eq-eqb other 1 (omega arith))

at_most_other : (bit other : ℕ) → bit < 2 → (not (eqb bit 1) || eqb other 1) ≡ true → bit ≤ other
at_most_other bit other small test =
    ⊎_elim (λ clear. omega (arith, eqb_not bit clear)) (λ set. omega (arith, eqb-true other 1 set))
    (or_cases (not (eqb bit 1)) (eqb other 1) test)
  where
    eqb_not : (n : ℕ) → not (eqb n 1) ≡ true → n ≡ 1 → ⊥
    eqb_not n clear = eqb-false n 1 (not-true (eqb n 1) clear)

abbrev test : ℕ → ℕ → ℕ → Bool
test bits held index = not (is_set bits index) || is_set held index

-- the test finds each bit among those held when it is
pub are_held-from_among : (bits held : ℕ) → AreAmong bits held → are_held bits held ≡ true
unfolding are_held
are_held-from_among bits held among =
    list_all-from_AllPass (test bits held) (range_with_len 0 32)
    (λ k d within. passes (bit_at bits _) (bit_at held _) (among _) (bit_at-lt held _))

-- and what it finds of a mask of 32 bits is so of each bit
pub among-from_are_held : (bits held : ℕ) → bits < 2 ^ 32 → are_held bits held ≡ true → AreAmong bits held
unfolding are_held
among-from_are_held bits held small are i =
    let Passes : ℕ → Type 0 = λ j. test bits held j ≡ true in
    let numbers = range_with_len 0 32 in
    let below : i < 32 → bit_at bits i ≤ bit_at held i =
    λ within.
    let here : get_or numbers i 0 ≡ i = get_or-range_with_len 0 32 i 0 within ∙ omega arith in
    at_most_other (bit_at bits i) (bit_at held i) (bit_at-lt bits i)
    (subst Passes here (All-get_or Passes numbers i 0 within (AllPass-from_list_all (test bits held) numbers are))) in
    ⊎_elim below (λ above. omega (arith, bit_at_above bits 32 i small above)) (cases_lt i 32)

-- joined with a mask that has its bits, a mask changes nothing
pub among-from_or : (bits held : ℕ) → bit_or held bits ≡ held → AreAmong bits held
among-from_or bits held same i = omega (arith, bit_at_or held bits i, ap (λ n. bit_at n i) same)

pub or-from_among : (bits held : ℕ) → AreAmong bits held → bit_or held bits ≡ held
or-from_among bits held among =
    same_from_bits (bit_or held bits) held (λ i. omega (arith, bit_at_or held bits i, among i))

-- a mask with no bit is among any
pub none_held : (held : ℕ) → are_held 0 held ≡ true
none_held held = are_held-from_among 0 held (λ i. omega (arith, bit_at-zero i))
