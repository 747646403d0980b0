-- A bit set and a bit cleared, bit by bit, and as the machine makes them.
use Rattle.std.proofs.Common.{◌≡◌, ◌≢◌, ℕ, zero, suc, ◌+◌, ◌-◌, ◌*◌, ◌/◌, ◌%◌, ◌^◌, ◌<◌, ◌≤◌, Bool, true, false, eqb}
use Rattle.std.proofs.Common.{bit_and, bit_or, ⊎_elim, if◌then◌else◌, refl, sym, ap, ◌∙◌, subst, arith}
use Rattle.std.specs.Int.{bit_at, bit_not, Width}
use mir.Val.{bits}
use Rattle.std.proofs.lemmas.Bool.{cases_lt, cases_eq}
use Rattle.std.proofs.lemmas.Bool.Decides.{nat_tests}
use Rattle.std.proofs.lemmas.Nat.{pow_pos, div-mul-add, div-add-mod'}
use Rattle.std.proofs.Math.Nat.{mul-add-div_right}
use Rattle.std.proofs.Math.Pow.{pow-lt}
use Rattle.std.proofs.lemmas.Nat.Bits.{bit_at-lt, bit_at-suc, bit_at_and, bit_at_or, bit_at_not, bit_at-pow_same}
use Rattle.std.proofs.lemmas.Nat.Bits.{bit_at-pow_other, bit_at_cat_low, bit_at_cat_high, bit_at_above, same_from_bits}
use Rattle.ob_core.specs.World.{is_set, with_bit, without_bit, PutsBit, SetsBit, ClearsBit, AreAmong, MakeUp}

-- ---- one bit and the others

-- above their lowest bit, two numbers with the same half have the same bits
above_lowest : (q p j : ℕ) → q / 2 ≡ p / 2 → j ≢ 0 → bit_at q j ≡ bit_at p j
above_lowest q p zero same above = absurd (above refl)
above_lowest q p (suc j) same above = bit_at-suc q j ∙ ap (λ n. bit_at n j) same ∙ sym (bit_at-suc p j)

-- two words that are the same below one bit and above it have the same bits but for that one
others_agree : (q p r k i : ℕ) → q / 2 ≡ p / 2 → r < 2 ^ k → i ≢ k → bit_at (q * 2 ^ k + r) i ≡ bit_at (p * 2 ^ k + r) i
others_agree q p r k i same small other =
    ⊎_elim
    (λ below. bit_at_cat_low q k r i below ∙ sym (bit_at_cat_low p k r i below))
    (λ above. bit_at_cat_high q k r i small above ∙ above_lowest q p (i - k) same (omega arith) ∙ sym
    (bit_at_cat_high p k r i small above))
    (cases_lt i k)

-- a word whose bit is clear, and what it is with what that bit counts
record DifferBy (k low high : ℕ) : Type 0 where
  sets : SetsBit low k high
  clears : ClearsBit high k low

differ : (q r k : ℕ) → q % 2 ≡ 0 → r < 2 ^ k → DifferBy k (q * 2 ^ k + r) ((q + 1) * 2 ^ k + r)
differ q r k even small =
    let half : q / 2 ≡ (q + 1) / 2 = omega (arith, even) in
    let low : bit_at (q * 2 ^ k + r) k ≡ 0 = ap (λ n. n % 2) (div-mul-add q (2 ^ k) r small) ∙ even in
    let high : bit_at ((q + 1) * 2 ^ k + r) k ≡ 1 =
    ap (λ n. n % 2) (div-mul-add (q + 1) (2 ^ k) r small) ∙ omega (arith, even) in
    let same : (i : ℕ) → i ≢ k → bit_at (q * 2 ^ k + r) i ≡ bit_at ((q + 1) * 2 ^ k + r) i =
    λ i other. others_agree q (q + 1) r k i half small other in
    record {
      sets = record { here = high; others = λ i other. sym (same i other) };
      clears = record { here = low; others = same };
    }

differ_by : (low high k : ℕ) → low + 2 ^ k ≡ high → bit_at low k ≡ 0 → DifferBy k low high
differ_by low high k more clear =
    let small : low % 2 ^ k < 2 ^ k = omega (arith, pow_pos k) in
    let is_low : low / 2 ^ k * 2 ^ k + low % 2 ^ k ≡ low = div-add-mod' low (2 ^ k) in
    let is_high : (low / 2 ^ k + 1) * 2 ^ k + low % 2 ^ k ≡ high = grind (arith, is_low, more) in
    subst (λ n. DifferBy k n high) is_low
    (subst (DifferBy k (low / 2 ^ k * 2 ^ k + low % 2 ^ k)) is_high (differ (low / 2 ^ k) (low % 2 ^ k) k clear small))

-- ---- a bit set

with_bit_unless : (word k : ℕ) (there : Bool) → eqb (bit_at word k) 1 ≡ there
    → SetsBit word k (if there then word else word + 2 ^ k)
with_bit_unless word k true there = record { here = grind (arith, nat_tests); others = λ i other. refl }
with_bit_unless word k false there =
    let clear : bit_at word k ≡ 0 = grind (arith, nat_tests, bit_at-lt word k) in
    (differ_by word (word + 2 ^ k) k refl clear).sets

pub SetsBit-with_bit : (word k : ℕ) → SetsBit word k (with_bit word k)
SetsBit-with_bit word k = with_bit_unless word k (is_set word k) refl

-- ---- a bit cleared

-- a word counts at least what a set bit of it counts
pub pow-le-of_bit : (word k : ℕ) → bit_at word k ≡ 1 → 2 ^ k ≤ word
pow-le-of_bit word k there =
    let some : 0 < word / 2 ^ k = omega (arith, there) in grind (arith, div-add-mod' word (2 ^ k))

without_bit_unless : (word k : ℕ) (there : Bool) → eqb (bit_at word k) 1 ≡ there
    → ClearsBit word k (if there then word - 2 ^ k else word)
without_bit_unless word k true there =
    let set : bit_at word k ≡ 1 = grind (arith, nat_tests) in
    let more : word - 2 ^ k + 2 ^ k ≡ word = omega (arith, pow-le-of_bit word k set) in
    let halves : (1 * 2 ^ k + (word - 2 ^ k)) / 2 ^ k ≡ 1 + (word - 2 ^ k) / 2 ^ k =
    mul-add-div_right (pow_pos k) 1 (word - 2 ^ k) in
    let same : 1 * 2 ^ k + (word - 2 ^ k) ≡ word = omega (arith, more) in
    let clear : bit_at (word - 2 ^ k) k ≡ 0 = omega (arith, set, sym (ap (λ n. n / 2 ^ k) same) ∙ halves) in
    (differ_by (word - 2 ^ k) word k more clear).clears
without_bit_unless word k false there =
    record { here = grind (arith, nat_tests, bit_at-lt word k); others = λ i other. refl }

pub ClearsBit-without_bit : (word k : ℕ) → ClearsBit word k (without_bit word k)
ClearsBit-without_bit word k = without_bit_unless word k (is_set word k) refl

-- ---- the machine's expressions, which give the only word with such bits

puts_alike : (value word k a b : ℕ) → PutsBit value word k a → PutsBit value word k b → a ≡ b
puts_alike value word k a b one other =
    same_from_bits a b (λ i. ⊎_elim
    (λ at. ap (bit_at a) at ∙ one.here ∙ sym (ap (bit_at b) at ∙ other.here))
    (λ apart. one.others i apart ∙ sym (other.others i apart))
    (cases_eq i k))

-- "or" with one bit sets it
pub or-is-with_bit : (word k : ℕ) → bit_or word (2 ^ k) ≡ with_bit word k
or-is-with_bit word k = puts_alike 1 word k (bit_or word (2 ^ k)) (with_bit word k) (record {
  here = omega (arith, bit_at_or word (2 ^ k) k, bit_at-pow_same k, bit_at-lt word k);
  others = λ i other. omega (arith, bit_at_or word (2 ^ k) i, bit_at-pow_other k i other);
}) (SetsBit-with_bit word k)

-- "and" with all bits but one clears that, in a word of the width in which these bits are
pub and-is-without_bit : (w : Width) (word k : ℕ) → word < 2 ^ bits w → k < bits w
    → bit_and word (bit_not w (2 ^ k)) ≡ without_bit word k
and-is-without_bit w word k fits within = puts_alike 0 word k (bit_and word (bit_not w (2 ^ k))) (without_bit word k)
    (record {
      here = omega (
        arith,
        bit_at_and word (bit_not w (2 ^ k)) k,
        bit_at_not w (2 ^ k) k (pow-lt within) within,
        bit_at-pow_same k,
      );
      others = λ i other. ⊎_elim
          (λ below. omega (
            arith,
            bit_at_and word (bit_not w (2 ^ k)) i,
            bit_at_not w (2 ^ k) i (pow-lt within) below,
            bit_at-pow_other k i other,
            bit_at-lt word i,
          ))
          (λ above. omega (arith, bit_at_and word (bit_not w (2 ^ k)) i, bit_at_above word (bits w) i fits above))
          (cases_lt i (bits w));
    }) (ClearsBit-without_bit word k)

-- ---- masks

-- a mask is shared out to its bits outside another mask and those within it
pub MakeUp-and : (w : Width) (mask taken : ℕ) → mask < 2 ^ bits w → taken < 2 ^ bits w
    → MakeUp mask (bit_and mask (bit_not w taken)) (bit_and mask taken)
MakeUp-and w mask taken small fits = λ i.
    let outside = bit_at_and mask (bit_not w taken) i in
    let within = bit_at_and mask taken i in
    ⊎_elim
    (λ below. omega (arith, outside, within, bit_at_not w taken i fits below, bit_at-lt mask i, bit_at-lt taken i))
    (λ above. omega (arith, outside, within, bit_at_above mask (bits w) i small above))
    (cases_lt i (bits w))

-- what is among a mask is so within another mask too
pub AreAmong-and : (bits mask other : ℕ) → AreAmong bits mask → AreAmong (bit_and bits other) (bit_and mask other)
AreAmong-and bits mask other among = λ i. omega (arith, bit_at_and bits other i, bit_at_and mask other i, among i)
