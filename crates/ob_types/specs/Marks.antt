-- The two marks of a buffer (Netty's `WriteBufferWaterMark`), the word beside the total, and how writability turns
-- (`isWritable`, `fireChannelWritabilityChanged`).
use Rattle.std.specs.Prelude.{ℕ, ◌≤◌, ◌||◌, nat_lt, if◌then◌else◌, Result, Ok, Err, Bool, true, false, ◌==◌, Option}
use Rattle.std.specs.Prelude.{Some, None, ◌+◌, ◌*◌, ◌/◌, ◌%◌}
use Rattle.ob_types.specs.Limits.{greatest_mark}
use Rattle.ob_types.specs.declared.refusal.Refusal.{Refusal}
use Rattle.ob_types.specs.declared.refusal.Refusal.TheVariants.{BadMarks}
use Rattle.ob_types.specs.declared.reply.Change.{Change}
use Rattle.ob_types.specs.declared.reply.Change.TheVariants.{Unwritable, Writable}

-- a low mark and a high mark, in bytes
pub record Marks : Type 0 where
  pub low : ℕ
  pub high : ℕ

-- the low mark is at most the high mark, and that at most the greatest mark
pub record AreMarks (marks : Marks) : Type 0 where
  pub ordered : marks.low ≤ marks.high
  pub within_limit : marks.high ≤ greatest_mark

-- the marks of two numbers, or BadMarks if they are no marks
abbrev pub water_mark_of : ℕ → ℕ → Result Marks Refusal
water_mark_of low high =
    if nat_lt high low || nat_lt greatest_mark high then Err BadMarks else Ok (record { low = low; high = high })

-- a buffer is writable exactly if no bit of its word is set
abbrev pub is_writable : ℕ → Bool
is_writable word = word == 0

-- the change from one writability to another: none if they agree
abbrev pub turn : Bool → Bool → Option Change
turn true true = None
turn true false = Some Unwritable
turn false true = Some Writable
turn false false = None

-- the change that a call reports, read off the word before and after it
abbrev pub change_between : ℕ → ℕ → Option Change
change_between before after = turn (is_writable before) (is_writable after)

-- a word and a total in one number of 64 bits: the word in the high half, the total in the low one
abbrev pub packed : ℕ → ℕ → ℕ
packed word total = word * 4294967296 + total

-- the word of such a number
abbrev pub word_half : ℕ → ℕ
word_half both = both / 4294967296

-- the total of such a number
abbrev pub total_half : ℕ → ℕ
total_half both = both % 4294967296
