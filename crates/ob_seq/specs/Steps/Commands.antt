-- Each command as a step. Of public clauses those of `Contents` cite it.
use Rattle.std.specs.Prelude.{ℕ, ◌+◌, ◌&&◌, Bool, false, not, [], ◌∷◌, ◌++◌, length, nat_le, if◌then◌else◌, Option}
use Rattle.std.specs.Prelude.{Some, None, ◌-◌, true, List, drop, slice_set, slice_index_or, nat_lt, suc, take, min, map}
use Rattle.std.specs.Prelude.{◌^◌, bit_and, bit_or, Result, Ok, Err}
use Rattle.std.specs.Int.{bit_not, w32}
use Rattle.ob_types.specs.Limits.{greatest_total, greatest_progress}
use Rattle.ob_types.specs.Marks.{change_between, Marks}
use Rattle.ob_types.specs.PendingSize.{counted_bytes, is_oversize, pending_size_of}
use Rattle.ob_types.specs.declared.message.Message.{Message}
use Rattle.ob_types.specs.declared.promise.PromiseState.TheVariants.{Waiting, Fixed, Settled}
use Rattle.ob_types.specs.declared.refusal.Refusal.TheVariants.{Oversize, TooMuch, TooManyBytes, NothingFlushed, TooFar}
use Rattle.ob_types.specs.declared.refusal.Refusal.TheVariants.{UnknownPromise, FlushedLeft, BadIndex, Closed}
use Rattle.ob_types.specs.declared.refusal.Refusal.{Refusal}
use Rattle.ob_types.specs.declared.reply.Answer.TheVariants.{Id, Count, Yes, Done}
use Rattle.ob_types.specs.declared.message.Message.TheVariants.{Block}
use Rattle.ob_types.specs.declared.promise.Outcome.{Outcome}
use Rattle.ob_types.specs.declared.promise.PromiseId.{PromiseId}
use Rattle.ob_types.specs.declared.reply.Reply.{Reply}
use Rattle.ob_types.specs.declared.promise.Outcome.TheVariants.{Success, Cancelled, Failed}
use Rattle.ob_types.specs.Replies.{is_waiting}
use Rattle.ob_types.specs.declared.promise.Cause.{Cause}
use Rattle.ob_types.specs.declared.promise.PromiseState.{PromiseState}
use Rattle.ob_types.specs.declared.command.Command.TheVariants.{Cancel, FailFlushed, Close, UserBit, SetMarks, Write}
use Rattle.ob_types.specs.declared.command.Command.TheVariants.{Flush, Remove, RemoveWith, RemoveBytes, Progress}
use Rattle.ob_types.specs.declared.command.Command.{Command}
use Rattle.ob_seq.specs.Answer.{is_full, buffer_limit}
use Rattle.ob_seq.specs.Pending.{Pending}
use Rattle.ob_seq.specs.Steps.Step.{Step, word_after_rise, pending_total, word_after_fall, unflushed_id, first_size}
use Rattle.ob_seq.specs.Steps.Step.{times, is_first_voided, front_id, front_changed, first_progress, promise_set}
use Rattle.ob_seq.specs.Steps.Step.{state_at}
use Rattle.ob_seq.specs.Looks.{PendingEntry, blocks_left}
use Rattle.ob_seq.specs.Rows.{is_cancelled, without_skipped}
use Rattle.ob_seq.specs.Effect.{block_bytes, bytes_in, pieces_within, failed}
use Rattle.ob_seq.specs.declared.contents.cut.Cut.{Cut}
use Rattle.ob_seq.specs.State.{is_user_index}

-- a buffer with a new message behind all others
abbrev pub written : Pending → Message → ℕ → Pending
written old message size = record old {
  unflushed = old.unflushed ++ record { message = message; size = size; progress = 0; voided = false } ∷ [];
  promises = old.promises ++ Waiting ∷ [];
  word = word_after_rise old.marks old.word size (pending_total old + size);
}

-- whether `size` more bytes are not too many
abbrev pub has_bytes_left : ℕ → Pending → Bool
has_bytes_left size old = nat_le (pending_total old + size) greatest_total

-- whether a message is not too much for what is held, under a limit on writes
abbrev pub has_room_within : Option ℕ → ℕ → Pending → Bool
has_room_within limit size old = has_bytes_left size old && not (is_full limit (length old.promises))

-- what a message of this size counts, or of none, that is written to what is open after this many writes, unless that is
-- refused under a limit on writes
abbrev pub admitted_open : Option ℕ → ℕ → Result ℕ Refusal → Pending → Result ℕ Refusal
admitted_open limit writes (Err refusal) old = Err refusal
admitted_open limit writes (Ok size) old =
    if has_bytes_left size old && not (is_full limit writes) then Ok size else Err TooMuch

-- what it counts, unless anything but lack of memory refuses it
abbrev pub admitted : Option ℕ → ℕ → Result ℕ Refusal → Pending → Result ℕ Refusal
admitted limit writes size old = if old.closed then Err Closed else admitted_open limit writes size old

-- what a message counts that is written now, unless anything but lack of memory refuses it
abbrev pub asked : Option ℕ → Message → Pending → Result ℕ Refusal
asked limit message old = admitted limit (length old.promises) (pending_size_of old.settings.estimate message) old

-- a write as a step, under a limit on writes
abbrev pub write_step_within : Option ℕ → Message → Pending → Step
write_step_within limit message old =
    let size = counted_bytes old.settings.estimate message in
    let after = written old message size in record {
      refusal = if is_oversize old.settings.estimate message then Some Oversize
          else (if has_room_within limit size old then None else Some TooMuch);
      reply = record {
        answer = Id (record { 0 = length old.promises });
        settled = [];
        change = change_between old.word after.word;
      };
      after = after;
    }

-- a write to a buffer as a step
abbrev pub write_step : Message → Pending → Step
write_step message old = write_step_within buffer_limit message old

-- whether the promise of the first unflushed entry was taken back
abbrev pub is_next_cancelled : Pending → Bool
is_next_cancelled old = is_cancelled (slice_index_or old.promises (unflushed_id old) Waiting)

-- an entry that a flush reaches: empty if it is voided
abbrev pub reached_entry : Bool → PendingEntry → PendingEntry
reached_entry true entry = record { message = Block []; size = 0; progress = entry.progress; voided = true }
reached_entry false entry = entry

-- a list with its first entry as a flush reaches it, alone
abbrev pub first_reached : Bool → List PendingEntry → List PendingEntry
first_reached cancelled [] = []
first_reached cancelled (entry ∷ entries) = reached_entry cancelled entry ∷ []

-- a buffer with one more entry in line: voided if its promise was taken back, else with its promise fixed
abbrev pub next_flushed : Pending → Pending
next_flushed old = record old {
  line = old.line ++ first_reached (is_next_cancelled old) old.unflushed;
  unflushed = drop 1 old.unflushed;
  promises = if is_next_cancelled old then old.promises else slice_set old.promises (unflushed_id old) Fixed;
  word = if is_next_cancelled old
      then word_after_fall old.marks old.word (first_size old.unflushed) (pending_total old - first_size old.unflushed)
      else old.word;
}

-- a buffer with all its entries in line
abbrev pub all_flushed : Pending → Pending
all_flushed old = times (length old.unflushed) next_flushed old

-- a flush as a step
abbrev pub flush_step : Pending → Step
flush_step old = record {
  refusal = None;
  reply = record {
    answer = Count (length old.unflushed);
    settled = [];
    change = change_between old.word (all_flushed old).word;
  };
  after = all_flushed old;
}

-- what the removal of the front settles: its promise, unless it was voided
abbrev pub front_settlement : Pending → Outcome → List (PromiseId × Outcome)
front_settlement old outcome = if is_first_voided old.line then [] else (record { 0 = front_id old }, outcome) ∷ []

-- a buffer without its front, with or without notice; its promise is settled unless it was voided
abbrev pub front_taken : Bool → Outcome → Pending → Pending
front_taken notice outcome old = record old {
  line = drop 1 old.line;
  promises = if is_first_voided old.line then old.promises else slice_set old.promises (front_id old) (Settled outcome);
  word =
      if notice
      then word_after_fall old.marks old.word (first_size old.line) (pending_total old - first_size old.line)
      else old.word;
}

-- a buffer without its front, if it has one
abbrev pub front_removed : Outcome → Pending → Pending
front_removed outcome old = if nat_lt 0 (length old.line) then front_taken true outcome old else old

-- what the removal of the front replies
abbrev pub removal_reply : Outcome → Pending → Reply
removal_reply outcome old = record {
  answer = Yes (nat_lt 0 (length old.line));
  settled = if nat_lt 0 (length old.line) then front_settlement old outcome else [];
  change = change_between old.word (front_removed outcome old).word;
}

-- a removal of the front as a step
abbrev pub removal_step : Outcome → Pending → Step
removal_step outcome old = record {
  refusal = None;
  reply = removal_reply outcome old;
  after = front_removed outcome old;
}

-- where a removal of n bytes from these pieces ends, if they hold as many
abbrev pub whole_cut : ℕ → List (List ℕ) → Cut
whole_cut n pieces = record {
  whole = pieces_within n pieces;
  rest = n - bytes_in (take (pieces_within n pieces) pieces);
}

-- where a removal of n bytes from these pieces ends, or nothing if they hold fewer
abbrev pub cut_of : ℕ → List (List ℕ) → Option Cut
cut_of n pieces = if nat_lt (bytes_in pieces) n then None else Some (whole_cut n pieces)

-- how many bytes the block of the first entry has left, or 0
abbrev pub first_length : List PendingEntry → ℕ
first_length [] = 0
first_length (entry ∷ entries) = length (block_bytes entry.message)

-- an entry of which *n* more bytes are skipped, which count as progress
abbrev pub skipped_entry : ℕ → PendingEntry → PendingEntry
skipped_entry n entry = record entry {
  message = without_skipped n entry.message;
  progress = min (entry.progress + n) greatest_progress;
}

-- a buffer with *n* bytes skipped in its front, and unchanged if that is none
abbrev pub front_skipped : ℕ → Pending → Pending
front_skipped n old = if nat_lt 0 n then front_changed (skipped_entry n) old else old

-- a buffer after a removal of bytes that ends there
abbrev pub bytes_removed : Cut → Pending → Pending
bytes_removed cut old = front_skipped cut.rest (times cut.whole (front_taken true Success) old)

-- what an entry settles when it is taken away with this outcome: its promise, unless it was voided
abbrev pub entry_settlement : Outcome → ℕ → PendingEntry → List (PromiseId × Outcome)
entry_settlement outcome id entry = if entry.voided then [] else (record { 0 = id }, outcome) ∷ []

-- what entries settle whose ids go on from this one, when they are taken away with this outcome
abbrev pub entry_settlements : Outcome → ℕ → List PendingEntry → List (PromiseId × Outcome)
entry_settlements outcome id [] = []
entry_settlements outcome id (entry ∷ entries) =
    entry_settlement outcome id entry ++ entry_settlements outcome (suc id) entries

-- what a removal of bytes replies that ends there
abbrev pub bytes_reply : Cut → Pending → Reply
bytes_reply cut old = record {
  answer = Count cut.whole;
  settled = entry_settlements Success (front_id old) (take cut.whole old.line);
  change = change_between old.word (bytes_removed cut old).word;
}

-- a removal of n bytes as a step
abbrev pub bytes_step : ℕ → Pending → Step
bytes_step n old = record {
  refusal = if nat_lt (bytes_in (blocks_left old.line)) n then Some TooManyBytes else None;
  reply = bytes_reply (whole_cut n (blocks_left old.line)) old;
  after = bytes_removed (whole_cut n (blocks_left old.line)) old;
}

-- an entry with *n* more bytes of progress
abbrev pub progressed_entry : ℕ → PendingEntry → PendingEntry
progressed_entry n entry = record entry { progress = entry.progress + n }

-- progress as a step
abbrev pub progress_step : ℕ → Pending → Step
progress_step n old = record {
  refusal = if nat_lt 0 (length old.line)
      then (if nat_le (first_progress old.line + n) greatest_progress then None else Some TooFar)
      else Some NothingFlushed;
  reply = record { answer = Done; settled = []; change = change_between old.word old.word };
  after = front_changed (progressed_entry n) old;
}

-- a cancellation as a step
abbrev pub cancel_step : ℕ → Pending → Step
cancel_step id old = record {
  refusal = if nat_lt id (length old.promises) then None else Some UnknownPromise;
  reply = record {
    answer = Yes (is_waiting (state_at old id));
    settled = if is_waiting (state_at old id) then (record { 0 = id }, Cancelled) ∷ [] else [];
    change = change_between old.word old.word;
  };
  after = if is_waiting (state_at old id) then promise_set id (Settled Cancelled) old else old;
}

-- a buffer after all in line are taken away as failed
abbrev pub line_failed : Cause → Bool → Pending → Pending
line_failed cause notice old = times (length old.line) (front_taken notice (Failed cause)) old

-- what a failing of all in line replies
abbrev pub failing_reply : Cause → Bool → Pending → Reply
failing_reply cause notice old = record {
  answer = Count (length old.line);
  settled = entry_settlements (Failed cause) (front_id old) old.line;
  change = change_between old.word (line_failed cause notice old).word;
}

-- a failing of all in line as a step
abbrev pub failing_step : Cause → Bool → Pending → Step
failing_step cause notice old = record {
  refusal = None;
  reply = failing_reply cause notice old;
  after = line_failed cause notice old;
}

-- the promises from an id on, of which those that still wait have failed
abbrev pub failed_from : ℕ → Cause → List PromiseState → List PromiseState
failed_from id cause promises = take id promises ++ map (failed cause) (drop id promises)

-- what promises settle whose ids go on from this one, when those that still wait fail
abbrev pub failures : Cause → ℕ → List PromiseState → List (PromiseId × Outcome)
failures cause id [] = []
failures cause id (state ∷ states) =
    (if is_waiting state then (record { 0 = id }, Failed cause) ∷ [] else []) ++ failures cause (suc id) states

-- a buffer after its close
abbrev pub closed_pending : Cause → Pending → Pending
closed_pending cause old = record old {
  unflushed = [];
  promises = failed_from (unflushed_id old) cause old.promises;
  closed = true;
}

-- what a close replies
abbrev pub closing_reply : Cause → Pending → Reply
closing_reply cause old = record {
  answer = Count (length old.unflushed);
  settled = failures cause (unflushed_id old) (drop (unflushed_id old) old.promises);
  change = change_between old.word old.word;
}

-- a close as a step
abbrev pub closing_step : Cause → Pending → Step
closing_step cause old = record {
  refusal = if nat_lt 0 (length old.line) then Some FlushedLeft else None;
  reply = closing_reply cause old;
  after = closed_pending cause old;
}

-- the word with the user bit of this index set, or clear if it is to be writable
abbrev pub with_user_bit : ℕ → Bool → ℕ → ℕ
with_user_bit index writable word = if writable then bit_and word (bit_not w32 (2 ^ index)) else bit_or word (2 ^ index)

-- a buffer with a user bit changed
abbrev pub bit_changed : ℕ → Bool → Pending → Pending
bit_changed index writable old = record old { word = with_user_bit index writable old.word }

-- a change of a user bit as a step
abbrev pub bit_step : ℕ → Bool → Pending → Step
bit_step index writable old = record {
  refusal = if is_user_index index then None else Some BadIndex;
  reply = record {
    answer = Done;
    settled = [];
    change = change_between old.word (bit_changed index writable old).word;
  };
  after = bit_changed index writable old;
}

-- a buffer with these marks in force
abbrev pub marks_set : Marks → Pending → Pending
marks_set marks old = record old { marks = marks }

-- marks that are set as a step: the word stays, whatever is pending
abbrev pub marks_step : Marks → Pending → Step
marks_step marks old = record {
  refusal = None;
  reply = record { answer = Done; settled = []; change = change_between old.word old.word };
  after = marks_set marks old;
}

-- the step that a command is under a limit on writes
abbrev pub step_within : Option ℕ → Command → Pending → Step
step_within limit (Write message) old = write_step_within limit message old
step_within limit Flush old = flush_step old
step_within limit Remove old = removal_step Success old
step_within limit (RemoveWith cause) old = removal_step (Failed cause) old
step_within limit (RemoveBytes n) old = bytes_step n old
step_within limit (Progress n) old = progress_step n old
step_within limit (Cancel id) old = cancel_step id.0 old
step_within limit (FailFlushed cause notice) old = failing_step cause notice old
step_within limit (Close cause) old = closing_step cause old
step_within limit (UserBit index writable) old = bit_step index writable old
step_within limit (SetMarks marks) old = marks_step marks old

-- the step that a command to a buffer is
abbrev pub step_of : Command → Pending → Step
step_of command old = step_within buffer_limit command old
