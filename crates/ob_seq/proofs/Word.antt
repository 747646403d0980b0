-- The word: its bits in binary, the mark, and both after one more command.
use Rattle.std.proofs.Common.{add-one, bit_or}
use Rattle.std.proofs.Math.Nat.{pow-suc, mul_assoc, mul_comm, mul-add, mul-zero}
use Rattle.ob_seq.proofs.Words.{◌≡◌, ℕ, zero, suc, ◌+◌, ◌*◌, ◌^◌, ◌/◌, ◌<◌, Bool, false, refl, sym, ap, ◌∙◌, cond}
use Rattle.ob_seq.proofs.Words.{arith, ltb, sum_by, nat_tests, range_with_len, bit_at, sum_by-cons, bit_at_lowest}
use Rattle.ob_seq.proofs.Words.{bit_at-suc, bit_at-zero, bit_value, bit_at_or, same_from_bits, eqb, ◌≤◌, true, List}
use Rattle.ob_seq.proofs.Words.{◌↔◌, Command, mark_after, Settings, user_bit, word_after, [], ◌∷◌, ◌++◌, reverse}
use Rattle.ob_seq.proofs.Words.{append-nil, append_assoc, filter, None, Option, unwrap_or, slice_get, fold, cons_option}
use Rattle.ob_seq.proofs.Words.{filter_map-append, reverse-append, filter-append, Marks, Row, effect, rows_after}
use Rattle.ob_seq.proofs.Words.{Moment, moment_of, moments_of, marks_after, marks_set_by, bit_request}
use Rattle.ob_seq.specs.State.{user_bits, Rise, NoticedFall, SilentFall, decides, deciding_from, is_rise, is_set_by}
use Rattle.ob_seq.specs.Steps.Step.{with_mark}

-- a digit of the binary system
abbrev pub digit : Bool → ℕ
digit bit = cond bit 1 0

-- the number whose digits from the lowest on are `count` of these, the first at from
abbrev pub number : (ℕ → Bool) → ℕ → ℕ → ℕ
number bit from zero = 0
number bit from (suc count) = digit (bit from) + 2 * number bit (from + 1) count

-- the bits of these indexes count as much as that number, moved up to the first index
sum_is : (bit : ℕ → Bool) (from count : ℕ) →
    sum_by (λ index. bit_value index (bit index)) (range_with_len from count) ≡ 2 ^ from * number bit from count
sum_is bit from zero = sym (mul-zero (2 ^ from))
sum_is bit from (suc count) =
    rw (sum_by-cons (λ index. bit_value index (bit index)) from (range_with_len (from + 1) count))
    (rw (sum_is bit (from + 1) count, add-one, pow-suc)
    (rw (mul-add (2 ^ from) (digit (bit from)) (2 * number bit (suc from) count), ← mul_assoc) (grind arith)))

-- the user bits without the mark's place
abbrev pub half_bits : (ℕ → Bool) → ℕ
half_bits bit = number bit 1 31

-- user bits are even
pub user_bits_even : (bit : ℕ → Bool) → user_bits bit ≡ half_bits bit * 2
unfolding user_bits
user_bits_even bit = sum_is bit 1 31 ∙ mul_comm 2 (half_bits bit)

-- each digit of it
digits_are : (bit : ℕ → Bool) (from count i at : ℕ) → at ≡ from + i →
    bit_at (number bit from count) i ≡ cond (ltb i count) (digit (bit at)) 0
digits_are bit from zero i at is = let none : ltb i 0 ≡ false = grind (arith, nat_tests) in rw (none, bit_at-zero)
digits_are bit from (suc count) zero at is =
    let here : at ≡ from = omega arith in rw (bit_at_lowest, here) (grind (arith, nat_tests))
digits_are bit from (suc count) (suc i) at is =
    let half : number bit from (suc count) / 2 ≡ number bit (from + 1) count = grind arith in
    rw (bit_at-suc, half, digits_are bit (from + 1) count i at (omega arith)) (grind (arith, nat_tests))

-- the number with these 32 digits
pub word_of : (ℕ → Bool) → ℕ
word_of bit = number bit 0 32

pub digit_of : (bit : ℕ → Bool) (i : ℕ) → bit_at (word_of bit) i ≡ cond (ltb i 32) (digit (bit i)) 0
unfolding word_of
digit_of bit i = digits_are bit 0 32 i i (omega arith)

-- numbers of `count` digits are below that power
number_small : (bit : ℕ → Bool) (from count : ℕ) → number bit from count < 2 ^ count
number_small bit from zero = omega arith
number_small bit from (suc count) =
    let small : digit (bit from) < 2 = grind arith in
    omega (arith, number_small bit (from + 1) count, pow-suc 2 count)

pub word_small : (bit : ℕ → Bool) → word_of bit < 4294967296
unfolding word_of
word_small bit = number_small bit 0 32

-- the digits of a word: bit 0 as given, and then the user bits
abbrev pub word_digits : Bool → (ℕ → Bool) → ℕ → Bool
word_digits first bit zero = first
word_digits first bit (suc i) = bit (suc i)

pub word_of_digits : (first : Bool) (bit : ℕ → Bool) → digit first + half_bits bit * 2 ≡ word_of (word_digits first bit)
unfolding word_of
word_of_digits first bit = ap (λ half. digit first + half) (mul_comm (half_bits bit) 2)

-- numbers of the same digits are the same
pub same_number : (bit other : ℕ → Bool) → ((index : ℕ) → bit index ≡ other index) → (from count : ℕ) →
    number bit from count ≡ number other from count
same_number bit other same from zero = refl
same_number bit other same from (suc count) = rw (same from, same_number bit other same (from + 1) count)

-- a number with bit 0 set has that bit, and the other bits as they were
with_bit_0 : (n i : ℕ) → bit_at (bit_or n 1) i ≡ bit_at (n / 2 * 2 + 1) i
with_bit_0 n zero = rw (bit_at_or n 1 0, bit_at_lowest n, bit_at_lowest (n / 2 * 2 + 1)) (omega arith)
with_bit_0 n (suc i) =
    let half : (n / 2 * 2 + 1) / 2 ≡ n / 2 = omega arith in
    rw (bit_at_or n 1 (suc i), bit_at-suc n i, bit_at-suc 1 i, bit_at-zero i, bit_at-suc (n / 2 * 2 + 1) i, half)
    (omega arith)

-- to set bit 0 is to make the number odd
pub bit_or_one : (n : ℕ) → bit_or n 1 ≡ n / 2 * 2 + 1
bit_or_one n = same_from_bits _ _ (with_bit_0 n)

module _ (settings : Settings) (commands : List Command) where
  abbrev digits : ℕ → Bool
  digits = word_digits (mark_after settings commands) (user_bit commands)

  word_is : word_after settings commands ≡ word_of digits
  word_is = rw (user_bits_even (user_bit commands)) (word_of_digits (mark_after settings commands) (user_bit commands))

  -- bit 0 is the mark
  pub bit_0_is_mark : bit_at (word_after settings commands) 0 ≡ 1 ↔ mark_after settings commands ≡ true
  bit_0_is_mark = rw (word_is, digit_of digits 0) (λ one. grind arith, λ set. rw set)

  -- bits 1 to 31 are the user bits
  pub user_bit_shows : (index : ℕ) → 1 ≤ index → index ≤ 31 →
      eqb (bit_at (word_after settings commands) index) 1 ≡ user_bit commands index
  user_bit_shows zero some few = absurd (omega arith)
  user_bit_shows (suc i) some few =
      let within : ltb (suc i) 32 ≡ true = grind (arith, nat_tests) in
      rw (word_is, digit_of digits (suc i), within) (grind arith)

  pub bit_is_user_bit : (index : ℕ) → 1 ≤ index → index ≤ 31 →
      bit_at (word_after settings commands) index ≡ 1 ↔ user_bit commands index ≡ true
  bit_is_user_bit index some few =
      let shows = user_bit_shows index some few in (λ one. grind (arith, nat_tests), λ set. grind (arith, nat_tests))

  -- and no higher bit is set
  pub no_higher_bit : word_after settings commands < 4294967296
  no_higher_bit = rw word_is (word_small digits)

-- the marks in force after one more command, by those before it
abbrev pub marks_with : Command → Marks → Marks
marks_with command marks = unwrap_or (marks_set_by command) marks

marks_by : (requests : List Marks) (asked : Option Marks) (first : Marks) →
    unwrap_or (slice_get (reverse (requests ++ cons_option asked [])) 0) first
    ≡ unwrap_or asked (unwrap_or (slice_get (reverse requests) 0) first)
marks_by requests asked first = grind (arith, reverse-append, append-nil)

pub marks_more : (settings : Settings) (commands : List Command) (command : Command) →
    marks_after settings (commands ++ command ∷ []) ≡ marks_with command (marks_after settings commands)
marks_more settings commands command = grind (arith, filter_map-append, marks_by)

-- the moments that decide of one more command, by the marks in force at it, come after the others
deciding_more : (settings : Settings) (earlier : List Command) (rows : List Row) (commands : List Command)
    (command : Command) →
    deciding_from settings earlier rows (commands ++ command ∷ [])
    ≡ deciding_from settings earlier rows commands
    ++ filter (decides (marks_after settings (earlier ++ commands)))
    (moments_of settings.estimate (fold (effect settings.estimate) rows commands) command)
deciding_more settings earlier rows [] command = rw (append-nil earlier, append-nil)
deciding_more settings earlier rows (first ∷ commands) command =
    rw (
      deciding_more settings (earlier ++ first ∷ []) (effect settings.estimate rows first) commands command,
      append_assoc earlier (first ∷ []) commands,
      append_assoc,
    )

-- the mark stays at a command that has no moment
pub mark_after_same : (settings : Settings) (commands : List Command) (command : Command) →
    moments_of settings.estimate (rows_after settings.estimate commands) command ≡ [] →
    mark_after settings (commands ++ command ∷ []) ≡ mark_after settings commands
mark_after_same settings commands command none = rw (deciding_more settings [] [] commands command, none, append-nil)

-- the command asks nothing of a user bit
abbrev pub IsQuiet : Command → Type 0
IsQuiet command = (index : ℕ) → bit_request index command ≡ None

-- what a history leaves for the word: the moments that decided, and half of what the user bits count
pub record Past : Type 0 where
  pub decided : List Moment
  pub half : ℕ

-- what a history of accepted commands leaves
abbrev pub past_after : Settings → List Command → Past
past_after settings commands =
    record { decided = deciding_from settings [] [] commands; half = half_bits (user_bit commands) }

-- so the user bits stay
half_stays : (commands : List Command) (command : Command) → IsQuiet command →
    half_bits (user_bit (commands ++ command ∷ [])) ≡ half_bits (user_bit commands)
half_stays commands command quiet = same_number (user_bit (commands ++ command ∷ [])) (user_bit commands) (λ index.
    rw (filter_map-append (bit_request index) commands (command ∷ []), quiet index, append-nil)) 1 31

-- the mark by the moments that decided, and then moments under these marks
abbrev mark_from : List Moment → Marks → List Moment → Bool
mark_from decided marks moments = is_set_by (slice_get (reverse (decided ++ filter (decides marks) moments)) 0)

-- the word by what a history leaves, and then moments under these marks
abbrev pub word_from : Marks → Past → List Moment → ℕ
word_from marks past moments = bit_value 0 (mark_from past.decided marks moments) + past.half * 2

-- the word of a history, which asks nothing of the marks in force
pub word_is_from : (settings : Settings) (commands : List Command) (marks : Marks) →
    word_after settings commands ≡ word_from marks (past_after settings commands) []
word_is_from settings commands marks =
    rw (user_bits_even (user_bit commands), append-nil (deciding_from settings [] [] commands))

-- and of the history with one more command that asks nothing of a user bit
pub word_is_from_more : (settings : Settings) (commands : List Command) (command : Command) → IsQuiet command →
    word_after settings (commands ++ command ∷ [])
    ≡ word_from (marks_after settings commands) (past_after settings commands)
    (moments_of settings.estimate (rows_after settings.estimate commands) command)
word_is_from_more settings commands command quiet =
    grind (arith, user_bits_even, half_stays, deciding_more)

-- at the start no bit is set
pub word_at_start : (settings : Settings) → word_after settings [] ≡ 0
unfolding user_bits
word_at_start settings = refl

-- the word after a moment with or without notice: it rises from before to after, falls, or stays
abbrev pub word_step : Bool → Marks → ℕ → ℕ → ℕ → ℕ → ℕ
word_step notice marks word before after sum =
    cond (ltb before after) (cond (ltb marks.high sum) (with_mark true word) word)
    (cond (ltb after before) (cond notice (cond (ltb sum marks.low) (with_mark false word) word) word) word)

-- the last deciding moment is the newest, if that decides
word_from_one : (marks : Marks) (past : Past) (moments : List Moment) (moment : Moment) →
    (let word = word_from marks past moments in
    word_from marks past (moments ++ moment ∷ [])
    ≡ cond (decides marks moment) (with_mark (is_rise moment) word) word)
word_from_one marks past moments moment =
    rw (filter-append, ← append_assoc) (grind (arith, reverse-append, append-nil))

-- the word after one more moment
pub word_from_more : (notice : Bool) (marks : Marks) (past : Past) (moments : List Moment) (before after sum : ℕ) →
    word_from marks past (moments ++ moment_of notice before after sum)
    ≡ word_step notice marks (word_from marks past moments) before after sum
word_from_more notice marks past moments before after sum =
    let rise = word_from_one marks past moments (Rise sum) in
    let noticed = word_from_one marks past moments (NoticedFall sum) in
    let silent = word_from_one marks past moments (SilentFall sum) in
    grind (arith, append-nil)

-- the word after one more command that has no moment
pub word_after_same : (settings : Settings) (commands : List Command) (command : Command) → IsQuiet command →
    moments_of settings.estimate (rows_after settings.estimate commands) command ≡ [] →
    word_after settings (commands ++ command ∷ []) ≡ word_after settings commands
word_after_same settings commands command quiet none =
    rw (word_is_from_more settings commands command quiet, none)
    (sym (word_is_from settings commands (marks_after settings commands)))
