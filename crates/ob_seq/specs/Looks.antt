-- What a contract sees of a message in a buffer, and what the looks show.
use Rattle.std.specs.Prelude.{ℕ, Bool, not, List, map, filter, take, length, min, max, nat_lt, ◌+◌, ◌-◌, ◌&&◌, nat_le}
use Rattle.std.specs.Prelude.{if◌then◌else◌, Option, Some, None, option_map, position}
use Rattle.ob_types.specs.declared.message.Message.{Message}
use Rattle.ob_types.specs.declared.command.Command.{Command}
use Rattle.ob_types.specs.Limits.{greatest_total}
use Rattle.ob_types.specs.Marks.{is_writable, Marks}
use Rattle.ob_types.specs.declared.promise.PromiseId.{PromiseId}
use Rattle.ob_types.specs.declared.promise.PromiseState.{PromiseState}
use Rattle.ob_seq.specs.Rows.{Row, unread_part, is_voided, counted_size, Settings, is_flushed, is_in_line, line, front}
use Rattle.ob_seq.specs.Rows.{total}
use Rattle.ob_seq.specs.Effect.{blocks_in_front, pieces_within, byte_run, rows_after}
use Rattle.ob_seq.specs.declared.look.Look.{Look}
use Rattle.ob_seq.specs.State.{marks_after, word_after}
use Rattle.ob_seq.specs.Answer.{promise_at}

-- what is left of a message, the bytes that it counts, its progress so far, and whether it was voided
pub record PendingEntry : Type 0 where
  pub message : Message
  pub size : ℕ
  pub progress : ℕ
  pub voided : Bool

-- a row as an entry
abbrev pub entry_of : Row → PendingEntry
entry_of row =
    record { message = unread_part row; size = counted_size row; progress = row.progress; voided = is_voided row.place }

-- what is left of each entry that was not voided
abbrev pub messages_to_send : List PendingEntry → List Message
messages_to_send entries = map (λ entry. entry.message) (filter (λ entry. not entry.voided) entries)

-- the bytes left in each entry before the first that is no block
abbrev pub blocks_left : List PendingEntry → List (List ℕ)
blocks_left entries = blocks_in_front (map (λ entry. entry.message) entries)

-- of a list of blocks those that hold a byte
abbrev pub with_bytes : List (List ℕ) → List (List ℕ)
with_bytes blocks = filter (λ block. nat_lt 0 (length block)) blocks

-- of a list of blocks as many from the front as hold together at most `max_bytes` bytes, but the first in any case, and
-- at most `max_count`
abbrev pub first_blocks : ℕ → ℕ → List (List ℕ) → List (List ℕ)
first_blocks max_count max_bytes blocks = take (min max_count (max 1 (pieces_within max_bytes blocks))) blocks

-- what is gathered from rows: the first blocks of the byte run that hold a byte
abbrev pub gathered : ℕ → ℕ → List Row → List (List ℕ)
gathered max_count max_bytes rows = first_blocks max_count max_bytes (with_bytes (byte_run rows))

-- what is gathered after a history of accepted commands
abbrev pub gathered_after : Settings → List Command → ℕ → ℕ → List (List ℕ)
gathered_after settings commands max_count max_bytes =
    gathered max_count max_bytes (rows_after settings.estimate commands)

-- how many bytes more make a writable buffer unwritable (Netty's `bytesBeforeUnwritable`); 0 if it is not writable
abbrev pub before_unwritable : Marks → ℕ → ℕ → ℕ
before_unwritable marks word sum = if is_writable word && nat_le sum marks.high then marks.high - sum + 1 else 0

-- how many bytes fewer bring the pending bytes of an unwritable buffer below the low mark (Netty's
-- `bytesBeforeWritable`), one more than there are if that mark is 0, at most the greatest total; 0 if the buffer is
-- writable, or its pending bytes are below the low mark
abbrev pub before_writable : Marks → ℕ → ℕ → ℕ
before_writable marks word sum =
    if not (is_writable word) && nat_le marks.low sum then min (sum - marks.low + 1) greatest_total else 0

-- the progress of the front, or 0 if nothing stands in line (Netty's `currentProgress`)
abbrev pub progress_of : Option Row → ℕ
progress_of None = 0
progress_of (Some row) = row.progress

-- the look after a history of accepted commands
abbrev pub look_after : Settings → List Command → Look
look_after settings commands =
    let rows = rows_after settings.estimate commands in
    let marks = marks_after settings commands in
    let word = word_after settings commands in record {
      total = total rows;
      word = word;
      size = length (line rows);
      before_unwritable = before_unwritable marks word (total rows);
      before_writable = before_writable marks word (total rows);
      current_progress = progress_of (front rows);
    }

-- what has become of a promise after a history, or nothing if no write was accepted under its id
abbrev pub promise_after : Settings → List Command → PromiseId → Option PromiseState
promise_after settings commands id = promise_at (rows_after settings.estimate commands) id.0

-- the unread part of the front after a history, or nothing if nothing stands in line (Netty's `current`)
abbrev pub current_after : Settings → List Command → Option Message
current_after settings commands = option_map unread_part (front (rows_after settings.estimate commands))

-- the promise of the front after a history, or nothing if nothing stands in line: its id is the index of the first row
-- in line among all rows (in Netty the promise in the entry of `current`)
abbrev pub front_promise_after : Settings → List Command → Option PromiseId
front_promise_after settings commands =
    option_map (λ index. record { 0 = index }) (position is_in_line (rows_after settings.estimate commands))

-- the unread part of each flushed message after a history, but of those that were voided, oldest first (Netty's
-- `forEachFlushedMessage`)
abbrev pub flushed_after : Settings → List Command → List Message
flushed_after settings commands =
    map unread_part (filter (λ row. is_flushed row.place) (rows_after settings.estimate commands))
