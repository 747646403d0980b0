use Rattle.std.proofs.Common.{◌≡◌, ◌∙◌, ℕ, Bool, List, ◌≤◌, ◌<◌, ◌+◌, ◌*◌, ◌-◌, ◌^◌, true, ap, arith, get_or, length, sym, take}
use Rattle.std.specs.List.{list_all}
use Rattle.std.specs.Char.{is_ascii_digit}
use Rattle.std.specs.Str.Parse.{digits_value}
use Rattle.ob_script.proofs.Numbers.{digits_more}
use Rattle.ob_script.proofs.reading.range.short_number.Goals as goal

-- a byte that was found to be a digit, behind those that were read
read_digit : (word : List ℕ) (i value : ℕ) (digit : Bool) → length word ≤ 19 → i < length word
    → list_all is_ascii_digit (take i word) ≡ true → value ≡ digits_value 10 (take i word)
    → digit ≡ is_ascii_digit (get_or word i 0) → digit ≡ true
    → (list_all is_ascii_digit (take (i + 1) word) ≡ true)
    × (value * 10 + (get_or word i 0 - 48) ≡ digits_value 10 (take (i + 1) word))
    × (value * 10 + (get_or word i 0 - 48) < 2 ^ 64)
read_digit word i value digit few within digits so_far tested is =
    digits_more word i value few within digits (sym tested ∙ is) so_far

pub overflow_mul-value : goal.overflow_mul-value
overflow_mul-value c =
    let inv = c.loop-byte.invariant in
    let more = read_digit c.args.word.now c.loop-byte.byte-index c.loop-byte.value _ (omega arith) c.loop-byte-test.true
    inv.digits inv.so_far c.is_ascii_digit.ensures.value c.if-not-is_ascii_digit.false in
    omega (arith, more.2)

pub overflow_add-value : goal.overflow_add-value
overflow_add-value c =
    let inv = c.loop-byte.invariant in
    let more = read_digit c.args.word.now c.loop-byte.byte-index c.loop-byte.value _ (omega arith) c.loop-byte-test.true
    inv.digits inv.so_far c.is_ascii_digit.ensures.value c.if-not-is_ascii_digit.false in
    omega (arith, more.2, c.from.ensures)

pub loop-byte-preserved : goal.loop-byte-preserved
loop-byte-preserved c =
    let inv = c.loop-byte.invariant in
    let more = read_digit c.args.word.now c.loop-byte.byte-index c.loop-byte.value _ (omega arith) c.loop-byte-test.true
    inv.digits inv.so_far c.is_ascii_digit.ensures.value c.if-not-is_ascii_digit.false in
    record { digits = more.0; so_far = ap (λ digit. c.loop-byte.value * 10 + digit) c.from.ensures ∙ more.1 }
