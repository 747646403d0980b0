-- What a buffer is opened with, and the rows: one for each accepted write, kept for ever.
use Rattle.std.specs.Prelude.{ℕ, Bool, true, false, [], drop, if◌then◌else◌, ◌||◌, List, filter, find, Option, ◌≡◌}
use Rattle.std.specs.Prelude.{◌++◌, ◌⊎◌, sum_by}
use Rattle.ob_types.specs.Marks.{Marks}
use Rattle.ob_types.specs.declared.estimate.Estimate.{Estimate}
use Rattle.ob_types.specs.PendingSize.{counted_bytes}
use Rattle.ob_types.specs.declared.message.Message.{Message}
use Rattle.ob_types.specs.declared.message.Message.TheVariants.{Block, Region, Other}
use Rattle.ob_types.specs.declared.promise.PromiseState.{PromiseState}
use Rattle.ob_types.specs.declared.promise.Outcome.TheVariants.{Success, Failed, Cancelled}
use Rattle.ob_types.specs.declared.promise.PromiseState.TheVariants.{Waiting, Fixed, Settled}
use Rattle.ob_types.specs.declared.promise.Outcome.{Outcome}

-- the water marks, and how messages are counted
pub record Settings : Type 0 where
  pub marks : Marks
  pub estimate : Estimate

-- where the message of a row is: behind the last flush, flushed, voided at its flush, or no longer in the buffer
pub data Place : Type 0 where
  Unflushed : Place
  Flushed : Place
  Voided : Place
  Gone : Place

-- a message with its pending size, its place, the bytes of it that were skipped, its progress so far, and its promise;
-- its id is its index among the rows
pub record Row : Type 0 where
  pub message : Message
  pub size : ℕ
  pub place : Place
  pub skipped : ℕ
  pub progress : ℕ
  pub promise : PromiseState

-- a message as it is written
abbrev pub new_row : Estimate → Message → Row
new_row estimate message = record {
  message = message;
  size = counted_bytes estimate message;
  place = Unflushed;
  skipped = 0;
  progress = 0;
  promise = Waiting;
}

-- whether no flush has come since the write
abbrev pub is_unflushed : Place → Bool
is_unflushed Unflushed = true
is_unflushed Flushed = false
is_unflushed Voided = false
is_unflushed Gone = false

-- whether the row is flushed, and neither voided nor removed
abbrev pub is_flushed : Place → Bool
is_flushed Unflushed = false
is_flushed Flushed = true
is_flushed Voided = false
is_flushed Gone = false

-- whether the row was voided at its flush and still stands in line
abbrev pub is_voided : Place → Bool
is_voided Unflushed = false
is_voided Flushed = false
is_voided Voided = true
is_voided Gone = false

-- what is left of a message when `skipped` bytes of it are skipped
abbrev pub without_skipped : ℕ → Message → Message
without_skipped skipped (Block bytes) = Block (drop skipped bytes)
without_skipped skipped (Region units) = Region units
without_skipped skipped (Other value) = Other value

-- the unread part: an empty block if the row was voided, a block without its skipped bytes, else the message
abbrev pub unread_part : Row → Message
unread_part row = if is_voided row.place then Block [] else without_skipped row.skipped row.message

-- whether a promise was taken back
abbrev pub is_cancelled : PromiseState → Bool
is_cancelled Waiting = false
is_cancelled Fixed = false
is_cancelled (Settled Success) = false
is_cancelled (Settled (Failed cause)) = false
is_cancelled (Settled Cancelled) = true

-- whether the row stands in line: flushed, or voided at its flush
abbrev pub is_in_line : Row → Bool
is_in_line row = is_flushed row.place || is_voided row.place

-- the rows in line, oldest first
abbrev pub line : List Row → List Row
line rows = filter is_in_line rows

-- the first row in line, if there is one
abbrev pub front : List Row → Option Row
front rows = find is_in_line rows

-- the rows that no flush has reached, oldest first
abbrev pub unflushed : List Row → List Row
unflushed rows = filter (λ row. is_unflushed row.place) rows

-- whether the row is no longer in the buffer
abbrev pub is_gone : Place → Bool
is_gone Unflushed = false
is_gone Flushed = false
is_gone Voided = false
is_gone Gone = true

-- the rows that are no longer in the buffer, oldest first
abbrev pub gone : List Row → List Row
gone rows = filter (λ row. is_gone row.place) rows

-- rows stand in order: first those that are gone, then those in line, then those that no flush has reached
abbrev pub StandInOrder : List Row → Type 0
StandInOrder rows = rows ≡ gone rows ++ (line rows ++ unflushed rows)

-- the promise of a message that no flush has reached waits or was cancelled, that of a flushed one is fixed, that of a
-- voided one was cancelled, and that of a message that is gone is settled
abbrev pub MayHave : Place → PromiseState → Type 0
MayHave Unflushed promise = (promise ≡ Waiting) ⊎ (promise ≡ Settled Cancelled)
MayHave Flushed promise = promise ≡ Fixed
MayHave Voided promise = promise ≡ Settled Cancelled
MayHave Gone promise = (outcome : Outcome) × (promise ≡ Settled outcome)

-- a row's promise is one that a message at its place may have
abbrev pub FitsItsPlace : Row → Type 0
FitsItsPlace row = MayHave row.place row.promise

-- the bytes that a row counts: its pending size while it is unflushed or flushed
abbrev pub counted_size : Row → ℕ
counted_size row = if is_unflushed row.place || is_flushed row.place then row.size else 0

-- the pending bytes, added up anew from the rows
abbrev pub total : List Row → ℕ
total rows = sum_by counted_size rows
