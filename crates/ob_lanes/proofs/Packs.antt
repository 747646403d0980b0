-- The two halves of the one word, and their bits.
use Rattle.std.proofs.Common.{◌≡◌, ℕ, ◌+◌, ◌-◌, ◌*◌, ◌^◌, ◌<◌, ◌≤◌, Bool, true, false, eqb, if◌then◌else◌}
use Rattle.std.proofs.Common.{refl, sym, ap, ◌∙◌, bit_and, bit_or, nat_lt, arith}
use Rattle.std.specs.Int.{bit_at, bit_not, w64}
use Rattle.std.proofs.lemmas.Bool.Decides.{nat_tests}
use Rattle.std.proofs.lemmas.Nat.{div-add-mod', pow-add}
use Rattle.std.proofs.lemmas.Nat.Bits.{bit_at_cat_high}
use Rattle.ob_types.specs.Marks.{packed, word_half, total_half, Marks}
use Rattle.ob_core.specs.World.{is_set, with_bit, without_bit}
use Rattle.ob_core.specs.Step.{raised_word, lowered_word}
use Rattle.ob_core.proofs.BitLemmas.{pow-le-of_bit, or-is-with_bit, and-is-without_bit}
use Rattle.ob_core.proofs.StepLemmas.{word_half-packed, total_half-packed}

-- a number is that of its two halves
pub halves_packed : (found : ℕ) → packed (word_half found) (total_half found) ≡ found
halves_packed found = div-add-mod' found 4294967296

-- a total that fits its half
pub total_half-small : (found : ℕ) → total_half found < 4294967296
total_half-small found = omega arith

-- a bit of the word is a bit of both, 32 places up
bit_up : (word total index : ℕ) → total < 4294967296 → bit_at (packed word total) (index + 32) ≡ bit_at word index
bit_up word total index fits =
    bit_at_cat_high word 32 total (index + 32) fits (omega arith) ∙ ap (bit_at word) (omega arith)

power_up : (index : ℕ) → 2 ^ (index + 32) ≡ 2 ^ index * 4294967296
power_up index = pow-add 2 index 32

with_bit_if : (word total index : ℕ) (there : Bool)
    → (if there then packed word total else packed word total + 2 ^ (index + 32))
    ≡ packed (if there then word else word + 2 ^ index) total
with_bit_if word total index true = refl
with_bit_if word total index false = omega (arith, power_up index)

pub with_bit-packed : (word total index : ℕ) → total < 4294967296
    → with_bit (packed word total) (index + 32) ≡ packed (with_bit word index) total
with_bit-packed word total index fits =
    ap (λ bit. if eqb bit 1 then packed word total else packed word total + 2 ^ (index + 32))
    (bit_up word total index fits)
    ∙ with_bit_if word total index (is_set word index)

without_bit_if : (word total index : ℕ) (there : Bool) → is_set word index ≡ there
    → (if there then packed word total - 2 ^ (index + 32) else packed word total)
    ≡ packed (if there then word - 2 ^ index else word) total
without_bit_if word total index true is_there =
    let set : bit_at word index ≡ 1 = grind (arith, nat_tests) in
    omega (arith, power_up index, pow-le-of_bit word index set)
without_bit_if word total index false is_there = refl

pub without_bit-packed : (word total index : ℕ) → total < 4294967296
    → without_bit (packed word total) (index + 32) ≡ packed (without_bit word index) total
without_bit-packed word total index fits =
    ap (λ bit. if eqb bit 1 then packed word total - 2 ^ (index + 32) else packed word total)
    (bit_up word total index fits)
    ∙ without_bit_if word total index (is_set word index) refl

-- the same of any number
pub with_bit-halves : (found index : ℕ)
    → with_bit found (index + 32) ≡ packed (with_bit (word_half found) index) (total_half found)
with_bit-halves found index =
    ap (λ n. with_bit n (index + 32)) (sym (halves_packed found))
    ∙ with_bit-packed (word_half found) (total_half found) index (total_half-small found)

pub without_bit-halves : (found index : ℕ)
    → without_bit found (index + 32) ≡ packed (without_bit (word_half found) index) (total_half found)
without_bit-halves found index =
    ap (λ n. without_bit n (index + 32)) (sym (halves_packed found))
    ∙ without_bit-packed (word_half found) (total_half found) index (total_half-small found)

-- ---- a charge, a discharge and a bit, as the machine makes them

pub raised_both : (marks : Marks) (found amount : ℕ) → total_half found + amount < 4294967296
    → marks.high < total_half (found + amount)
    → bit_or (found + amount) 4294967296
    ≡ packed (raised_word marks (total_half found + amount) (word_half found)) (total_half found + amount)
raised_both marks found amount fits above =
    let total : total_half (found + amount) ≡ total_half found + amount = omega (arith, fits) in
    let word : word_half (found + amount) ≡ word_half found = omega (arith, fits) in
    let yes : nat_lt marks.high (total_half found + amount) ≡ true = grind (arith, nat_tests) in
    or-is-with_bit (found + amount) 32 ∙ with_bit-halves (found + amount) 0 ∙ rw (yes, total, word) refl

pub lowered_both : (marks : Marks) (found amount : ℕ) → found < 2 ^ 64 → amount ≤ total_half found
    → total_half (found - amount) < marks.low
    → bit_and (found - amount) 18446744069414584319
    ≡ packed (lowered_word marks (total_half found - amount) (word_half found)) (total_half found - amount)
lowered_both marks found amount small least below =
    let total : total_half (found - amount) ≡ total_half found - amount = omega (arith, least) in
    let word : word_half (found - amount) ≡ word_half found = omega (arith, least) in
    let yes : nat_lt (total_half found - amount) marks.low ≡ true = grind (arith, nat_tests) in
    let fits : found - amount < 2 ^ 64 = omega (arith, small) in
    and-is-without_bit w64 (found - amount) 32 fits (omega arith) ∙ without_bit-halves (found - amount) 0
    ∙ rw (yes, total, word) refl

pub set_both : (found index : ℕ) → word_half (bit_or found (2 ^ (index + 32))) ≡ with_bit (word_half found) index
set_both found index =
    ap word_half (or-is-with_bit found (index + 32) ∙ with_bit-halves found index)
    ∙ word_half-packed _ _ (total_half-small found)

pub clear_both : (found index : ℕ) → found < 2 ^ 64 → index < 32
    → word_half (bit_and found (bit_not w64 (2 ^ (index + 32)))) ≡ without_bit (word_half found) index
clear_both found index small within =
    ap word_half (and-is-without_bit w64 found (index + 32) small (omega (arith, within)) ∙ without_bit-halves found index)
    ∙ word_half-packed _ _ (total_half-small found)

-- neither moves the total
pub set_total : (found index : ℕ) → total_half (bit_or found (2 ^ (index + 32))) ≡ total_half found
set_total found index =
    ap total_half (or-is-with_bit found (index + 32) ∙ with_bit-halves found index)
    ∙ total_half-packed _ (total_half found) (total_half-small found)

pub clear_total : (found index : ℕ) → found < 2 ^ 64 → index < 32
    → total_half (bit_and found (bit_not w64 (2 ^ (index + 32)))) ≡ total_half found
clear_total found index small within =
    ap total_half (and-is-without_bit w64 found (index + 32) small (omega (arith, within))
    ∙ without_bit-halves found index)
    ∙ total_half-packed _ (total_half found) (total_half-small found)
