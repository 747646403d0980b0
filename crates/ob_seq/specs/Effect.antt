-- What an accepted command does to the rows, and the byte run: the beginning of the line, as far as it is made of bytes.
use Rattle.std.specs.Prelude.{ℕ, suc, List, length, take, filter, fold, max, nat_le, sum_by, ◌-◌, [], map, ◌∷◌, ◌++◌}
use Rattle.std.specs.Prelude.{if◌then◌else◌, zero, ◌+◌, min, nat_lt, Bool, ◌&&◌}
use Rattle.std.specs.List.{range_with_len, take_while}
use Rattle.ob_types.specs.Limits.{greatest_progress}
use Rattle.ob_types.specs.declared.message.Message.{Message}
use Rattle.ob_types.specs.declared.message.Message.TheVariants.{Block, Region, Other}
use Rattle.ob_types.specs.Traits.{is_block}
use Rattle.ob_types.specs.declared.estimate.Estimate.{Estimate}
use Rattle.ob_types.specs.declared.command.Command.{Command}
use Rattle.ob_types.specs.declared.command.Command.TheVariants.{Write, Flush, Remove, RemoveWith, RemoveBytes, Progress}
use Rattle.ob_types.specs.declared.command.Command.TheVariants.{Cancel, FailFlushed, Close, UserBit, SetMarks}
use Rattle.ob_types.specs.declared.promise.Cause.{Cause}
use Rattle.ob_types.specs.declared.promise.Outcome.{Outcome}
use Rattle.ob_types.specs.declared.promise.Outcome.TheVariants.{Success, Failed, Cancelled}
use Rattle.ob_types.specs.declared.promise.PromiseState.TheVariants.{Fixed, Settled, Waiting}
use Rattle.ob_types.specs.declared.promise.PromiseState.{PromiseState}
use Rattle.ob_seq.specs.Rows.{Row, unread_part, line, Flushed, Gone, new_row, is_unflushed, is_flushed, Voided}
use Rattle.ob_seq.specs.Rows.{is_cancelled, is_in_line}

-- the bytes that pieces hold together
abbrev pub bytes_in : List (List ℕ) → ℕ
bytes_in pieces = sum_by (λ piece. length piece) pieces

-- the greatest of some numbers
abbrev pub greatest : List ℕ → ℕ
greatest numbers = fold max 0 numbers

-- the greatest number of pieces, from the first on, that hold together at most `limit` bytes
abbrev pub pieces_within : ℕ → List (List ℕ) → ℕ
pieces_within limit pieces =
    greatest (filter (λ count. nat_le (bytes_in (take count pieces)) limit) (range_with_len 0 (suc (length pieces))))

-- the bytes of a block, and none of any other message
abbrev pub block_bytes : Message → List ℕ
block_bytes (Block bytes) = bytes
block_bytes (Region units) = []
block_bytes (Other value) = []

-- the bytes of each message before the first that is no block
abbrev pub blocks_in_front : List Message → List (List ℕ)
blocks_in_front messages = map block_bytes (take_while is_block messages)

-- the byte run: the unread bytes of each row in line before the first whose unread part is no block; those of a
-- voided row are none
abbrev pub byte_run : List Row → List (List ℕ)
byte_run rows = blocks_in_front (map unread_part (line rows))

-- how many rows a removal of n bytes takes away whole: the most that have together at most n unread bytes
abbrev pub whole_rows : ℕ → List Row → ℕ
whole_rows n rows = pieces_within n (byte_run rows)

-- how many of n bytes are left over once those rows are taken away
abbrev pub bytes_left_over : ℕ → List Row → ℕ
bytes_left_over n rows = n - bytes_in (take (whole_rows n rows) (byte_run rows))

-- a row that a flush reaches: it stands in line, voided if its promise was cancelled, and else with its promise fixed
abbrev pub reached_row : Row → Row
reached_row row =
    if is_cancelled row.promise then record row { place = Voided } else record row { place = Flushed; promise = Fixed }

-- a row after a flush, which reaches the unflushed rows
abbrev pub flushed_row : Row → Row
flushed_row row = if is_unflushed row.place then reached_row row else row

-- a row taken away, its promise settled if it was flushed and not voided
abbrev pub taken_row : Outcome → Row → Row
taken_row outcome row =
    record row { place = Gone; promise = if is_flushed row.place then Settled outcome else row.promise }

-- a row after all in line are taken away as failed for this cause
abbrev pub failed_row : Cause → Row → Row
failed_row cause row = if is_in_line row then taken_row (Failed cause) row else row

-- a promise that fails for this cause if it still waits
abbrev pub failed : Cause → PromiseState → PromiseState
failed cause Waiting = Settled (Failed cause)
failed cause Fixed = Fixed
failed cause (Settled outcome) = Settled outcome

-- a row after a close: it is gone, and its promise has failed if no flush had reached it and it still waited
abbrev pub closed_row : Cause → Row → Row
closed_row cause row =
    record row { place = Gone; promise = if is_unflushed row.place then failed cause row.promise else row.promise }

-- the rows with the front changed
abbrev pub with_front : (Row → Row) → List Row → List Row
with_front change [] = []
with_front change (row ∷ rows) = if is_in_line row then change row ∷ rows else row ∷ with_front change rows

-- whether a row stands in line, and fewer than `count` rows in line stand before it
abbrev pub is_among_first : ℕ → List Row → Row → Bool
is_among_first count before row = is_in_line row && nat_lt (length (line before)) count

-- rows behind these others, with each such row changed
abbrev pub with_first_behind : ℕ → (Row → Row) → List Row → List Row → List Row
with_first_behind count change before [] = []
with_first_behind count change before (row ∷ rows) =
    (if is_among_first count before row then change row else row)
    ∷ with_first_behind count change (before ++ row ∷ []) rows

-- the rows with the first `count` of the line changed: a row changes if it is in line and fewer than `count` rows in
-- line stand before it
abbrev pub with_first : ℕ → (Row → Row) → List Row → List Row
with_first count change rows = with_first_behind count change [] rows

-- a row of which *n* more bytes are skipped, and added to its progress, which stops at the greatest progress
abbrev pub skipped_row : ℕ → Row → Row
skipped_row n row = record row { skipped = row.skipped + n; progress = min (row.progress + n) greatest_progress }

-- the rows with *n* bytes skipped in the front, and unchanged if that is none
abbrev pub with_skipped : ℕ → List Row → List Row
with_skipped n rows = if nat_lt 0 n then with_front (skipped_row n) rows else rows

-- a row with *n* more bytes of progress
abbrev pub progressed_row : ℕ → Row → Row
progressed_row n row = record row { progress = row.progress + n }

-- a promise taken back, if it still waits
abbrev pub cancelled : PromiseState → PromiseState
cancelled Waiting = Settled Cancelled
cancelled Fixed = Fixed
cancelled (Settled outcome) = Settled outcome

-- the rows with the promise of this id taken back
abbrev pub with_cancelled : ℕ → List Row → List Row
with_cancelled id [] = []
with_cancelled zero (row ∷ rows) = record row { promise = cancelled row.promise } ∷ rows
with_cancelled (suc id) (row ∷ rows) = row ∷ with_cancelled id rows

-- the rows after one more accepted command
abbrev pub effect : Estimate → List Row → Command → List Row
effect estimate rows (Write message) = rows ++ new_row estimate message ∷ []
effect estimate rows Flush = map flushed_row rows
effect estimate rows Remove = with_front (taken_row Success) rows
effect estimate rows (RemoveWith cause) = with_front (taken_row (Failed cause)) rows
effect estimate rows (RemoveBytes n) =
    with_skipped (bytes_left_over n rows) (with_first (whole_rows n rows) (taken_row Success) rows)
effect estimate rows (Progress n) = with_front (progressed_row n) rows
effect estimate rows (Cancel id) = with_cancelled id.0 rows
effect estimate rows (FailFlushed cause notify) = map (failed_row cause) rows
effect estimate rows (Close cause) = map (closed_row cause) rows
effect estimate rows (UserBit index writable) = rows
effect estimate rows (SetMarks marks) = rows

-- the rows after a list of accepted commands, oldest first
abbrev pub rows_after : Estimate → List Command → List Row
rows_after estimate commands = fold (effect estimate) [] commands
