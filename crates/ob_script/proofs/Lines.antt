-- The lines of a script, its first line and the words of a line, and what a line says.
use Rattle.std.proofs.Common.{◌≡◌, ℕ, suc, ◌+◌, ◌<◌, Bool, true, false, not, cond, eqb, List, [], ◌∷◌, length, take}
use Rattle.std.proofs.Common.{drop, get_or, count_by, length-drop, refl, ap, ◌∙◌, arith, one-add, Some, None, inl, inr}
use Rattle.std.proofs.Common.{◌≤◌, Result, Ok, Err, Option, slice_index}
use Rattle.std.proofs.lemmas.List.Sums.{prefix_len-le-length, passes_at_first}
use Rattle.std.proofs.lemmas.List.Splits.{length-slice_split}
use Rattle.std.proofs.lemmas.Bool.{cases_Bool, cases_lt, lt-ltb, eqb-true, le-ltb}
use Rattle.std.proofs.Math.Path.{fun_ext}
use Rattle.std.specs.List.{onto_first, position, position_or_len}
use Rattle.std.specs.Prelude.{ok_or}
use Rattle.ob_script.specs.Reading.{lines_of, words_of, words_after, all_numbers_in, asked_by, numbers_in, HoldsNumbers}
use Rattle.ob_script.specs.declared.reading.range.Range.{Range}
use Rattle.ob_script.specs.declared.reading.fault.LineFault.{LineFault}
use Rattle.ob_script.specs.declared.reading.fault.LineFault.TheVariants.{TooFewWords, TooManyWords, Misplaced}

-- if no byte is found, the place is the end
pub position-None : {X : Type 0} (p : X → Bool) (s : List X) → position p s ≡ None → length s ≡ position_or_len p s
position-None p s e = elim (cases_lt (position_or_len p s) (length s)) [
  | inl h ↦ let t = lt-ltb _ _ h in let same : Some (position_or_len p s) ≡ None = (rw t at e) in cc
  | inr h ↦ let le = prefix_len-le-length (λ x. not (p x)) s in omega arith
]

-- the line that begins with b, by the first line of what follows
with_byte : (b : ℕ) (s : List ℕ) (n : ℕ) → lines_of s ≡ take n s ∷ lines_of (drop (n + 1) s)
    → onto_first b (lines_of s) ≡ take (1 + n) (b ∷ s) ∷ lines_of (drop (1 + n + 1) (b ∷ s))
with_byte b s n e =
    let shift : suc (n + 1) ≡ suc n + 1 = omega arith in
    rw one-add (ap (onto_first b) e ∙ ap (λ m. (b ∷ take n s) ∷ lines_of (drop m (b ∷ s))) shift)

-- the line goes to the first byte 10, or to the end
pub lines_of-first : (s : List ℕ) → 0 < length s
    → lines_of s
    ≡ take (position_or_len (λ b. eqb b 10) s) s ∷ lines_of (drop (position_or_len (λ b. eqb b 10) s + 1) s)
lines_of-first [] h = absurd (omega arith)
lines_of-first (b ∷ []) h =
    elim (eqb b 10) as (λ t. cond t ([] ∷ []) ((b ∷ []) ∷ [])
    ≡ take (cond (not t) 1 0) (b ∷ []) ∷ lines_of (drop (cond (not t) 1 0 + 1) (b ∷ [])))
    [ true ↦ refl | false ↦ refl ]
lines_of-first (b ∷ c ∷ s) h =
    let n = position_or_len (λ x. eqb x 10) (c ∷ s) in
    let rest = lines_of-first (c ∷ s) (omega arith) in
    elim (eqb b 10) as (λ t. cond t ([] ∷ lines_of (c ∷ s)) (onto_first b (lines_of (c ∷ s)))
    ≡ take (cond (not t) (1 + n) 0) (b ∷ c ∷ s) ∷ lines_of (drop (cond (not t) (1 + n) 0 + 1) (b ∷ c ∷ s))) [
      | true ↦ refl
      | false ↦ with_byte b (c ∷ s) n rest
    ]

-- the word goes to the first space, or to the end
pub words_of-first : (s : List ℕ)
    → words_of s ≡ take (position_or_len (λ b. eqb b 32) s) s ∷ words_after (drop (position_or_len (λ b. eqb b 32) s) s)
words_of-first [] = refl
words_of-first (b ∷ s) = elim (cases_Bool (eqb b 32)) [
  | inl e ↦ simp e
  | inr e ↦ simp (e, one-add) (ap (onto_first b) (words_of-first s))
]

-- behind a space come the words of what follows it
pub words_after-space : (s : List ℕ) → 0 < length s → get_or s 0 0 ≡ 32 → words_after s ≡ words_of (drop 1 s)
words_after-space [] h e = absurd (omega arith)
words_after-space (b ∷ s) h e = simp e

-- there is a word for each space
pub length-words_after : (s : List ℕ) → length (words_after s) ≡ count_by (λ b. eqb b 32) s
length-words_after s =
    let all = length-slice_split (λ b. eqb b 32) s in
    let rest = length-drop 1 (words_of s) in
    omega arith

-- what follows the first word begins with a space
pub space_after : (s : List ℕ) (n : ℕ) → n ≡ position_or_len (λ b. eqb b 32) s → n < length s → get_or s n 0 ≡ 32
space_after s n e h =
    let inside : position_or_len (λ b. eqb b 32) s < length s = omega arith in
    eqb-true _ _ (rw e (passes_at_first (λ b. eqb b 32) s 0 inside))

-- if words follow, there are bytes
pub bytes_of_words : (s : List ℕ) → 0 < length (words_after s) → 0 < length s
bytes_of_words [] h = absurd (omega arith)
bytes_of_words (b ∷ s) h = omega arith

pub all_numbers_in-few : (ranges : List Range) (words : List (List ℕ)) → length words < length ranges
    → all_numbers_in ranges words ≡ Err TooFewWords
all_numbers_in-few ranges words h = simp (lt-ltb (length words) (length ranges) h)

pub all_numbers_in-many : (ranges : List Range) (words : List (List ℕ)) → length ranges < length words
    → all_numbers_in ranges words ≡ Err TooManyWords
all_numbers_in-many ranges words h =
    let over : length ranges ≤ length words = omega arith in
    simp (le-ltb (length words) (length ranges) over, lt-ltb (length ranges) (length words) h)

pub all_numbers_in-exact : (ranges : List Range) (words : List (List ℕ)) → length words ≡ length ranges
    → all_numbers_in ranges words ≡ numbers_in ranges words
all_numbers_in-exact ranges words e =
    let low : length ranges ≤ length words = omega arith in
    let high : length words ≤ length ranges = omega arith in
    simp (le-ltb (length words) (length ranges) low, le-ltb (length ranges) (length words) high)

-- what is asked by an array that holds the numbers
pub asked_by-Ok : {L : Type 0} (asked : (ℕ → ℕ) → Option L) (array : List ℕ) (read : Result (List ℕ) LineFault)
    → HoldsNumbers (Ok array) read → ok_or (asked (λ place. slice_index array place)) Misplaced ≡ asked_by asked read
asked_by-Ok asked array (Ok numbers) held = ap (λ number. ok_or (asked number) Misplaced) (fun_ext held)
asked_by-Ok asked array (Err fault) held = absurd held

pub asked_by-Err : {L : Type 0} (asked : (ℕ → ℕ) → Option L) (found : LineFault) (read : Result (List ℕ) LineFault)
    → HoldsNumbers (Err found) read → Err found ≡ asked_by asked read
asked_by-Err asked found (Ok numbers) held = absurd held
asked_by-Err asked found (Err fault) held = ap Err held
