-- The value of decimal digits, from left to right, and whether the numbers of a line stand in their ranges.
use Rattle.std.proofs.Common.{◌≡◌, ◌∙◌, ℕ, ◌+◌, ◌-◌, ◌*◌, ◌^◌, lit≤, ◌<◌, ◌≤◌, true, false, List, [], ◌∷◌, ◌++◌}
use Rattle.std.proofs.Common.{append_assoc, Result, Ok, Err, length, take, drop, drop-cons, add-one, get_or, refl, ap}
use Rattle.std.proofs.Common.{sym, arith, inl, inr, eqb, length-take, zero, suc, subst, slice_index}
use Rattle.std.proofs.Math.Nat.{pow-le-pow_right}
use Rattle.std.proofs.lemmas.Int.Digits.{digits_value-lt, digits_value_more}
use Rattle.std.proofs.lemmas.Str.Parse.{digits_value-take-le}
use Rattle.std.proofs.lemmas.List.Folds.{list_all_at, list_all_more}
use Rattle.std.proofs.lemmas.Bool.{cases_Bool, both_ways}
use Rattle.std.proofs.lemmas.Bool.Decides.{nat_tests}
use Rattle.std.specs.Prelude.{if◌then◌else◌, nat_lt}
use Rattle.std.specs.List.{list_all, onto_first}
use Rattle.std.specs.Char.{is_ascii_digit, digit_value}
use Rattle.std.specs.Str.Parse.{AllDigits, digits_value}
use Rattle.ob_script.specs.Reading.{words_of, all_numbers_in, before_numbers, holds, is_number, number_in, numbers_in}
use Rattle.ob_script.specs.Reading.{greatest_at, AreWithin, HoldsNumbers}
use Rattle.ob_script.specs.declared.reading.range.Range.{Range}
use Rattle.ob_script.specs.declared.reading.fault.LineFault.{LineFault}
use Rattle.ob_script.specs.declared.reading.fault.LineFault.TheVariants.{OutOfRange}

-- each byte of a word of digits is a digit
pub digit_at : (word : List ℕ) (i : ℕ) → list_all is_ascii_digit word ≡ true → i < length word
    → is_ascii_digit (get_or word i 0) ≡ true
digit_at word i all h = elim (cases_Bool (is_ascii_digit (get_or word i 0))) [
  | inl is ↦ is
  | inr fails ↦ absurd (both_ways (list_all is_ascii_digit word) (list_all_at is_ascii_digit word i 0 h fails) all)
]

-- a digit is a byte from 48 to 57, and its value is the byte less 48
pub digit_value-digit : (c : ℕ) → is_ascii_digit c ≡ true → (48 ≤ c) × (c < 58) × (digit_value c ≡ c - 48)
digit_value-digit c h = (grind (arith, nat_tests), grind (arith, nat_tests), grind (arith, nat_tests))

-- one more digit makes the value ten times as much, and adds the digit
pub value_more : (word : List ℕ) (i value : ℕ) → list_all is_ascii_digit word ≡ true → i < length word
    → value ≡ digits_value 10 (take i word)
    → value * 10 + (get_or word i 0 - 48) ≡ digits_value 10 (take (i + 1) word)
value_more word i value all h e =
    let digit = digit_value-digit (get_or word i 0) (digit_at word i all h) in
    let more = digits_value_more 10 word i h in
    omega (arith, digit.2)

-- if one more digit passes every number of 64 bits, the whole word does
pub value_too_great : (word : List ℕ) (i value : ℕ) → list_all is_ascii_digit word ≡ true → i < length word
    → value ≡ digits_value 10 (take i word)
    → 2 ^ 64 ≤ value * 10 + (get_or word i 0 - 48) → 2 ^ 64 ≤ digits_value 10 word
value_too_great word i value all h e big =
    let more = value_more word i value all h e in
    let within = digits_value-take-le 10 word (i + 1) (lit≤ tt) in
    omega arith

-- numbers that were read, and then the rest
abbrev pub behind : List ℕ → Result (List ℕ) LineFault → Result (List ℕ) LineFault
behind front (Ok numbers) = Ok (front ++ numbers)
behind front (Err fault) = Err fault

-- a number more in front
pub behind-Ok : (front : List ℕ) (number : ℕ) (rest : Result (List ℕ) LineFault)
    → behind front (before_numbers (Ok number) rest) ≡ behind (front ++ number ∷ []) rest
behind-Ok front number (Ok numbers) = ap Ok (sym (append_assoc front (number ∷ []) numbers))
behind-Ok front number (Err fault) = refl

-- the numbers from a place on, by the number at that place
pub numbers_in-drop : (ranges : List Range) (i : ℕ) (d : Range) (word : List ℕ) (words : List (List ℕ))
    → i < length ranges
    → numbers_in (drop i ranges) (word ∷ words)
    ≡ before_numbers (number_in (get_or ranges i d) word) (numbers_in (drop (i + 1) ranges) words)
numbers_in-drop ranges i d word words h = rw (drop-cons ranges i d h, add-one) refl

-- a word of digits alone has digits in base 10 alone
all_digits : (word : List ℕ) → list_all is_ascii_digit word ≡ true → AllDigits 10 word
all_digits [] all = tt
all_digits (byte ∷ word) all = elim (cases_Bool (is_ascii_digit byte)) [
  | inl is ↦ let digit = digit_value-digit byte is in (omega (arith, digit.2), all_digits word (simp is at all))
  | inr fails ↦ absurd (both_ways (list_all is_ascii_digit (byte ∷ word)) (simp fails refl) all)
]

-- at most 19 digits write a number of 64 bits
pub few_digits-small : (word : List ℕ) → list_all is_ascii_digit word ≡ true → length word ≤ 19
    → digits_value 10 word < 2 ^ 64
few_digits-small word all few =
    let small = digits_value-lt 10 word (all_digits word all) in
    let most : 10 ^ length word ≤ 10 ^ 19 = pow-le-pow_right (lit≤ tt) few in
    omega (arith, small, most)

-- behind a few digits that were read, one more makes the value ten times as much and adds itself, and all fits
pub digits_more : (word : List ℕ) (i value : ℕ) → length word ≤ 19 → i < length word
    → list_all is_ascii_digit (take i word) ≡ true → is_ascii_digit (get_or word i 0) ≡ true
    → value ≡ digits_value 10 (take i word)
    → (list_all is_ascii_digit (take (i + 1) word) ≡ true)
    × (value * 10 + (get_or word i 0 - 48) ≡ digits_value 10 (take (i + 1) word))
    × (value * 10 + (get_or word i 0 - 48) < 2 ^ 64)
digits_more word i value few h all is e =
    let digits : list_all is_ascii_digit (take (i + 1) word) ≡ true =
    list_all_more is_ascii_digit word i 0 h ∙ rw (all, is) refl in
    let digit = digit_value-digit (get_or word i 0) is in
    let more = digits_value_more 10 word i h in
    let read : value * 10 + (get_or word i 0 - 48) ≡ digits_value 10 (take (i + 1) word) = omega (arith, digit.2) in
    let short : length (take (i + 1) word) ≤ 19 = omega (arith, length-take (i + 1) word) in
    let small = few_digits-small (take (i + 1) word) digits short in
    (digits, read, omega (arith, small, read))

-- a word of digits is cut nowhere
words_of_digits : (word : List ℕ) → list_all is_ascii_digit word ≡ true → words_of word ≡ word ∷ []
words_of_digits [] all = refl
words_of_digits (byte ∷ word) all = elim (cases_Bool (is_ascii_digit byte)) [
  | inl is ↦
      let digit = digit_value-digit byte is in
      let other : eqb byte 32 ≡ false = grind (arith, nat_tests) in
      simp other (ap (onto_first byte) (words_of_digits word (simp is at all)))
  | inr fails ↦ absurd (both_ways (list_all is_ascii_digit (byte ∷ word)) (simp fails refl) all)
]

-- if one number is asked for, and digits alone are there, they are the number
pub all_numbers_in-one : (range : Range) (word : List ℕ) (number : ℕ) → is_number word ≡ true
    → number ≡ digits_value 10 word
    → all_numbers_in (range ∷ []) (words_of word)
    ≡ before_numbers (if holds range number then Ok number else Err OutOfRange) (Ok [])
all_numbers_in-one range word number is e =
    let all : list_all is_ascii_digit word ≡ true = grind (arith, is) in
    rw (words_of_digits word all, e) (simp is refl)

-- the numbers that were read, if they were, stand in their ranges
abbrev pub AllWithin : List Range → Result (List ℕ) LineFault → Type 0
AllWithin ranges (Ok numbers) = AreWithin ranges numbers
AllWithin ranges (Err fault) = Unit {0}

-- one number, if it was read, is at most m
abbrev pub OneWithin : ℕ → Result ℕ LineFault → Type 0
OneWithin m (Ok number) = number ≤ m
OneWithin m (Err fault) = Unit {0}

within_cons : (range : Range) (ranges : List Range) (number : ℕ) (numbers : List ℕ) → number ≤ range.greatest
    → AreWithin ranges numbers
    → (k : ℕ) → slice_index (number ∷ numbers) k ≤ greatest_at (range ∷ ranges) k
within_cons range ranges number numbers one all zero = one
within_cons range ranges number numbers one all (suc k) = all k

before_numbers-within : (range : Range) (ranges : List Range) (first : Result ℕ LineFault)
    (rest : Result (List ℕ) LineFault)
    → OneWithin range.greatest first → AllWithin ranges rest → AllWithin (range ∷ ranges) (before_numbers first rest)
before_numbers-within range ranges (Err fault) rest one all = tt
before_numbers-within range ranges (Ok number) (Err fault) one all = tt
before_numbers-within range ranges (Ok number) (Ok numbers) one all = within_cons range ranges number numbers one all

number_in-within : (range : Range) (word : List ℕ) → OneWithin range.greatest (number_in range word)
number_in-within range word = elim (cases_Bool (is_number word)) [
  | inl digits ↦ elim (cases_Bool (holds range (digits_value 10 word))) [
    | inl held ↦ simp (digits, held) (grind (arith, nat_tests))
    | inr out ↦ simp (digits, out) tt
  ]
  | inr other ↦ simp other tt
]

numbers_in-within : (ranges : List Range) (words : List (List ℕ)) → AllWithin ranges (numbers_in ranges words)
numbers_in-within [] words = λ k. omega arith
numbers_in-within (range ∷ ranges) [] = λ k. omega arith
numbers_in-within (range ∷ ranges) (word ∷ words) =
    before_numbers-within range ranges (number_in range word) (numbers_in ranges words) (number_in-within range word)
    (numbers_in-within ranges words)

all_numbers_in-within : (ranges : List Range) (words : List (List ℕ)) → AllWithin ranges (all_numbers_in ranges words)
all_numbers_in-within ranges words = elim (cases_Bool (nat_lt (length words) (length ranges))) [
  | inl few ↦ simp few tt
  | inr enough ↦ elim (cases_Bool (nat_lt (length ranges) (length words))) [
    | inl many ↦ simp (enough, many) tt
    | inr exact ↦ simp (enough, exact) (numbers_in-within ranges words)
  ]
]

array-within : (ranges : List Range) (array : List ℕ) (read : Result (List ℕ) LineFault) → HoldsNumbers (Ok array) read
    → AllWithin ranges read → AreWithin ranges array
array-within ranges array (Ok numbers) held all = λ k.
    subst (λ (n : ℕ). n ≤ greatest_at ranges k) (sym (held k)) (all k)
array-within ranges array (Err fault) held all = absurd held

-- so do those of an array that holds the numbers of a line
pub held-within : (ranges : List Range) (array : List ℕ) (words : List (List ℕ))
    → HoldsNumbers (Ok array) (all_numbers_in ranges words) → AreWithin ranges array
held-within ranges array words held = array-within ranges array _ held (all_numbers_in-within ranges words)
