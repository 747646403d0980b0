-- A number in decimal digits, two by two, and in eight hexadecimal ones.
use Rattle.std.proofs.Common.{◌≡◌, ◌∙◌, ℕ, ◌+◌, ◌/◌, ◌%◌, ◌<◌, ◌≤◌, List, [], ◌∷◌, ◌++◌, append_assoc, ap, arith, refl}
use Rattle.std.proofs.Common.{sym, zero, suc, ◌-◌, ◌*◌, ◌^◌, false, append-nil, inl, inr, length, replicate}
use Rattle.std.proofs.lemmas.Fmt.{decimal_digit, decimal_step}
use Rattle.std.proofs.lemmas.Bool.{cases_Bool, eqb-true}
use Rattle.std.specs.Fmt.{decimal, char_count, digit_glyph, digits, digits_onto, padded_integral}
use Rattle.std.specs.Prelude.{◌==◌, codes}
use Rattle.ob_script.specs.Tracing.{two_digits, eight_hex}

-- a number from 10 to 99 has two
pub decimal-two : (number : ℕ) → 10 ≤ number → number < 100 → decimal number ≡ two_digits number
decimal-two number least small =
    decimal_step number least (omega arith)
    ∙ ap (λ front. front ++ (48 + number % 10) ∷ []) (decimal_digit (number / 10) (omega arith))

-- from 100 on, a number has two behind those of its hundreds
pub decimal-two_more : (number : ℕ) → 100 ≤ number → number < 1000000
    → decimal number ≡ decimal (number / 100) ++ two_digits (number % 100)
decimal-two_more number least small =
    let hundreds : number / 10 / 10 ≡ number / 100 = omega arith in
    let tens : number / 10 % 10 ≡ number % 100 / 10 = omega arith in
    let ones : number % 10 ≡ number % 100 % 10 = omega arith in
    decimal_step number (omega arith) (omega arith)
    ∙ ap (λ front. front ++ (48 + number % 10) ∷ []) (decimal_step (number / 10) (omega arith) (omega arith))
    ∙ append_assoc (decimal (number / 10 / 10)) ((48 + number / 10 % 10) ∷ []) ((48 + number % 10) ∷ [])
    ∙ rw (hundreds, tens, ones) refl

-- so it stands behind a text where its hundreds do, and then two digits
pub two_more : (old front all : List ℕ) (number : ℕ) → 100 ≤ number → number < 1000000
    → front ≡ old ++ decimal (number / 100) → all ≡ front ++ two_digits (number % 100) → all ≡ old ++ decimal number
two_more old front all number least small hundreds last =
    last ∙ ap (λ text. text ++ two_digits (number % 100)) hundreds
    ∙ append_assoc old (decimal (number / 100)) (two_digits (number % 100))
    ∙ ap (λ digits. old ++ digits) (sym (decimal-two_more number least small))

-- the last *n* hexadecimal digits of a number, zeros if it has fewer, and then others
abbrev pub hex_onto : ℕ → ℕ → List ℕ → List ℕ
hex_onto zero number rest = rest
hex_onto (suc count) number rest = hex_onto count (number / 16) (digit_glyph false (number % 16) ∷ rest)

zeros_before : (count : ℕ) (rest : List ℕ) → replicate count 48 ++ 48 ∷ rest ≡ 48 ∷ (replicate count 48 ++ rest)
zeros_before zero rest = refl
zeros_before (suc count) rest = ap (λ more. 48 ∷ more) (zeros_before count rest)

hex_onto-zero : (count : ℕ) (rest : List ℕ) → hex_onto count 0 rest ≡ replicate count 48 ++ rest
hex_onto-zero zero rest = refl
hex_onto-zero (suc count) rest = hex_onto-zero count (48 ∷ rest) ∙ zeros_before count rest

-- the least number with more than one digit and *n* more
abbrev limit : ℕ → ℕ
limit zero = 16
limit (suc more) = limit more * 16

-- with zeros before them, the digits of a number that has at most *n* are its last ones
padded_digits : (more fuel number : ℕ) (rest : List ℕ) → number < limit more → more < fuel
    → replicate (more + 1 + length rest - length (digits_onto fuel 16 false number rest)) 48
    ++ digits_onto fuel 16 false number rest ≡ hex_onto (suc more) number rest
padded_digits more zero number rest small enough = absurd (omega arith)
padded_digits zero (suc fuel) number rest small enough =
    let none : number / 16 ≡ 0 = omega arith in
    let pad : 0 + 1 + length rest - (suc (length rest)) ≡ 0 = omega arith in
    simp (none, pad) refl
padded_digits (suc more) (suc fuel) number rest small enough = elim (cases_Bool (number / 16 == 0)) [
  | inl last ↦
      let none : number / 16 ≡ 0 = eqb-true (number / 16) 0 last in
      let pad : suc more + 1 + length rest - (suc (length rest)) ≡ suc more = omega arith in
      simp (none, pad) (sym (hex_onto-zero (suc more) (digit_glyph false (number % 16) ∷ rest)))
  | inr further ↦
      let small_front : number / 16 < limit more = omega arith in
      let fewer = padded_digits more fuel (number / 16) (digit_glyph false (number % 16) ∷ rest) small_front (omega arith) in
      let same : suc more + 1 + length rest ≡ more + 1 + suc (length rest) = omega arith in
      simp (further, same) fewer
]

-- a number in eight hexadecimal digits has its last eight
eight_hex-onto : (number : ℕ) → number < 2 ^ 32 → eight_hex number ≡ hex_onto 8 number []
unfolding digits padded_integral char_count
eight_hex-onto number small =
    let numeral : List ℕ = digits_onto 64 16 false number [] in
    let bare : 8 - length numeral - 0 - 0 ≡ 8 - length numeral = omega arith in
    ap (λ count. replicate count 48 ++ (numeral ++ [])) bare
    ∙ ap (λ text. replicate (8 - length numeral) 48 ++ text) (append-nil numeral)
    ∙ padded_digits 7 64 number [] small (omega arith)

-- a byte in two hexadecimal digits
abbrev pub two_hex : ℕ → List ℕ
two_hex byte = digit_glyph false (byte / 16) ∷ digit_glyph false (byte % 16) ∷ []

-- they are those of its four bytes
pub eight_hex-bytes : (number : ℕ) → number < 2 ^ 32
    → eight_hex number ≡ two_hex (number / 16777216) ++ (two_hex (number / 65536 % 256)
    ++ (two_hex (number / 256 % 256) ++ two_hex (number % 256)))
eight_hex-bytes number small =
    let a : number / 16777216 / 16 ≡ number / 16 / 16 / 16 / 16 / 16 / 16 / 16 % 16 = omega arith in
    let b : number / 16777216 % 16 ≡ number / 16 / 16 / 16 / 16 / 16 / 16 % 16 = omega arith in
    let c : number / 65536 % 256 / 16 ≡ number / 16 / 16 / 16 / 16 / 16 % 16 = omega arith in
    let d : number / 65536 % 256 % 16 ≡ number / 16 / 16 / 16 / 16 % 16 = omega arith in
    let e : number / 256 % 256 / 16 ≡ number / 16 / 16 / 16 % 16 = omega arith in
    let f : number / 256 % 256 % 16 ≡ number / 16 / 16 % 16 = omega arith in
    let g : number % 256 / 16 ≡ number / 16 % 16 = omega arith in
    let h : number % 256 % 16 ≡ number % 16 = omega arith in
    rw (a, b, c, d, e, f, g, h) (eight_hex-onto number small)

-- if it is a byte, six zeros stand before that
pub eight_hex-byte : (number : ℕ) → number < 256 → eight_hex number ≡ codes "000000" ++ two_hex number
eight_hex-byte number small =
    let a : number / 16777216 ≡ 0 = omega arith in
    let b : number / 65536 % 256 ≡ 0 = omega arith in
    let c : number / 256 % 256 ≡ 0 = omega arith in
    let d : number % 256 ≡ number = omega arith in
    eight_hex-bytes number (omega arith) ∙ rw (a, b, c, d) refl

-- four texts, one after the other
pub four_more : (old first second third fourth a b c d : List ℕ) → first ≡ old ++ a → second ≡ first ++ b
    → third ≡ second ++ c → fourth ≡ third ++ d → fourth ≡ old ++ (a ++ (b ++ (c ++ d)))
four_more old first second third fourth a b c d e f g h =
    h ∙ ap (λ t. t ++ d) (g ∙ ap (λ t. t ++ c) (f ∙ ap (λ t. t ++ b) e))
    ∙ append_assoc ((old ++ a) ++ b) c d ∙ append_assoc (old ++ a) b (c ++ d) ∙ append_assoc old a (b ++ (c ++ d))
