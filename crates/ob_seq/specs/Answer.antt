-- The answer to one more command, and which commands are accepted.
use Rattle.std.specs.Prelude.{ℕ, suc, ◌+◌, ◌||◌, Bool, List, [], ◌∷◌, ◌++◌, length, nat_lt, nat_le, if◌then◌else◌}
use Rattle.std.specs.Prelude.{is_some, is_ok, Option, Some, None, Result, Ok, Err, option_map, slice_get, true, false}
use Rattle.std.specs.Prelude.{◌&&◌, fold}
use Rattle.ob_types.specs.Limits.{greatest_progress, greatest_total, most_writes}
use Rattle.ob_types.specs.Marks.{change_between}
use Rattle.ob_types.specs.PendingSize.{counted_bytes, is_oversize}
use Rattle.ob_types.specs.Replies.{is_waiting}
use Rattle.ob_types.specs.declared.estimate.Estimate.{Estimate}
use Rattle.ob_types.specs.declared.command.Command.{Command}
use Rattle.ob_types.specs.declared.command.Command.TheVariants.{Write, Flush, Remove, RemoveWith, RemoveBytes, Progress}
use Rattle.ob_types.specs.declared.command.Command.TheVariants.{Cancel, FailFlushed, Close, UserBit, SetMarks}
use Rattle.ob_types.specs.declared.promise.PromiseId.{PromiseId}
use Rattle.ob_types.specs.declared.promise.Outcome.{Outcome}
use Rattle.ob_types.specs.declared.promise.PromiseState.{PromiseState}
use Rattle.ob_types.specs.declared.promise.PromiseState.TheVariants.{Waiting, Fixed, Settled}
use Rattle.ob_types.specs.declared.reply.Reply.{Reply}
use Rattle.ob_types.specs.declared.reply.Answer.{Answer}
use Rattle.ob_types.specs.declared.reply.Answer.TheVariants.{Id, Count, Yes, Done}
use Rattle.ob_types.specs.declared.refusal.Refusal.{Refusal}
use Rattle.ob_types.specs.declared.refusal.Refusal.TheVariants.{Oversize, TooMuch, Closed, NothingFlushed, TooFar}
use Rattle.ob_types.specs.declared.refusal.Refusal.TheVariants.{TooManyBytes, BadIndex, FlushedLeft, UnknownPromise}
use Rattle.ob_seq.specs.Effect.{bytes_in, byte_run, whole_rows, effect, rows_after}
use Rattle.ob_seq.specs.Rows.{Settings, Row, front, line, unflushed, total}
use Rattle.ob_seq.specs.State.{is_user_index, word_after, is_closed}

-- whether this many writes are all that a limit allows; without a limit they never are
abbrev pub is_full : Option ℕ → ℕ → Bool
is_full None count = false
is_full (Some limit) count = nat_le limit count

-- whether a message is too much under a limit on writes: the total would pass its greatest, or the limit is reached
abbrev pub is_too_much_within : Option ℕ → Estimate → List Row → ℕ → Bool
is_too_much_within limit estimate rows size = nat_lt greatest_total (total rows + size) || is_full limit (length rows)

-- the refusal of progress: nothing is flushed, or the sum would pass the greatest progress
abbrev pub refusal_of_progress : Option Row → ℕ → Option Refusal
refusal_of_progress None n = Some NothingFlushed
refusal_of_progress (Some row) n = if nat_lt greatest_progress (row.progress + n) then Some TooFar else None

-- the first refusal of a command to a buffer that is not closed, in the order in which they are asked, or none, under a
-- limit on writes
abbrev pub refusal_within : Option ℕ → Estimate → List Row → Command → Option Refusal
refusal_within limit estimate rows (Write message) =
    if is_oversize estimate message then Some Oversize
    else (if is_too_much_within limit estimate rows (counted_bytes estimate message) then Some TooMuch else None)
refusal_within limit estimate rows Flush = None
refusal_within limit estimate rows Remove = None
refusal_within limit estimate rows (RemoveWith cause) = None
refusal_within limit estimate rows (RemoveBytes n) =
    if nat_lt (bytes_in (byte_run rows)) n then Some TooManyBytes else None
refusal_within limit estimate rows (Progress n) = refusal_of_progress (front rows) n
refusal_within limit estimate rows (Cancel id) = if nat_lt id.0 (length rows) then None else Some UnknownPromise
refusal_within limit estimate rows (FailFlushed cause notify) = None
refusal_within limit estimate rows (Close cause) = if is_some (front rows) then Some FlushedLeft else None
refusal_within limit estimate rows (UserBit index writable) = if is_user_index index then None else Some BadIndex
refusal_within limit estimate rows (SetMarks marks) = None

-- the first refusal of a command after a history, or none, under a limit on writes: once the buffer is closed, each
-- command is refused as that
abbrev pub first_refusal_within : Option ℕ → Estimate → List Command → Command → Option Refusal
first_refusal_within limit estimate commands command =
    if is_closed commands then Some Closed else refusal_within limit estimate (rows_after estimate commands) command

-- the state of the promise with this id, if a write was accepted under it
abbrev pub promise_at : List Row → ℕ → Option PromiseState
promise_at rows id = option_map (λ row. row.promise) (slice_get rows id)

-- whether there is a promise, and it still waits
abbrev pub still_waits : Option PromiseState → Bool
still_waits None = false
still_waits (Some state) = is_waiting state

-- what an accepted command returns: a write its promise; a flush how many rows it reached; a removal whether there was
-- a front; a cancellation whether the promise still waited; a removal of bytes, a failing of the flushed messages and a
-- close how many rows they took away
abbrev pub answer_of : List Row → Command → Answer
answer_of rows (Write message) = Id (record { 0 = length rows })
answer_of rows Flush = Count (length (unflushed rows))
answer_of rows Remove = Yes (is_some (front rows))
answer_of rows (RemoveWith cause) = Yes (is_some (front rows))
answer_of rows (RemoveBytes n) = Count (whole_rows n rows)
answer_of rows (Progress n) = Done
answer_of rows (Cancel id) = Yes (still_waits (promise_at rows id.0))
answer_of rows (FailFlushed cause notify) = Count (length (line rows))
answer_of rows (Close cause) = Count (length (unflushed rows))
answer_of rows (UserBit index writable) = Done
answer_of rows (SetMarks marks) = Done

-- how a promise is settled, if it is
abbrev pub outcome_of : PromiseState → Option Outcome
outcome_of Waiting = None
outcome_of Fixed = None
outcome_of (Settled outcome) = Some outcome

-- the settlement of one promise: there is one if it was not settled before and is settled after
abbrev pub settlement : ℕ → Option Outcome → Option Outcome → List (PromiseId × Outcome)
settlement id None None = []
settlement id None (Some outcome) = (record { 0 = id }, outcome) ∷ []
settlement id (Some earlier) after = []

-- the promises that are settled after and were not before, with their outcomes, in the order of the rows
abbrev pub settlements_from : ℕ → List Row → List Row → List (PromiseId × Outcome)
settlements_from id before [] = []
settlements_from id [] (row ∷ after) = settlement id None (outcome_of row.promise) ++ settlements_from (suc id) [] after
settlements_from id (was ∷ before) (row ∷ after) =
    settlement id (outcome_of was.promise) (outcome_of row.promise) ++ settlements_from (suc id) before after

-- the promises that one more accepted command settles
abbrev pub settlements_of : Estimate → List Row → Command → List (PromiseId × Outcome)
settlements_of estimate rows command = settlements_from 0 rows (effect estimate rows command)

-- the reply to one more command, if it is accepted: its answer, what it settles, and the change of the word
abbrev pub reply_of : Settings → List Command → Command → Reply
reply_of settings commands command =
    let rows = rows_after settings.estimate commands in record {
      answer = answer_of rows command;
      settled = settlements_of settings.estimate rows command;
      change = change_between (word_after settings commands) (word_after settings (commands ++ command ∷ []));
    }

-- the reply, unless there is a refusal
abbrev pub unless_refused : Option Refusal → Reply → Result Reply Refusal
unless_refused None reply = Ok reply
unless_refused (Some refusal) reply = Err refusal

-- the answer to one more command under a limit on writes: its first refusal, or its reply
abbrev pub answer_within : Option ℕ → Settings → List Command → Command → Result Reply Refusal
answer_within limit settings commands command =
    unless_refused (first_refusal_within limit settings.estimate commands command) (reply_of settings commands command)

-- a command is accepted under a limit on writes, after a history, exactly if its answer is a reply
abbrev pub is_accepted_within : Option ℕ → Settings → List Command → Command → Bool
is_accepted_within limit settings commands command = is_ok (answer_within limit settings commands command)

-- whether commands that come after a history are accepted under a limit on writes, one after another
abbrev pub are_accepted_within : Option ℕ → Settings → List Command → List Command → Bool
are_accepted_within limit settings earlier [] = true
are_accepted_within limit settings earlier (command ∷ commands) =
    is_accepted_within limit settings earlier command
    && are_accepted_within limit settings (earlier ++ command ∷ []) commands

-- the limit on the writes of a buffer
abbrev pub buffer_limit : Option ℕ
buffer_limit = Some most_writes

-- whether a message is too much for a buffer: the total would pass its greatest, or the most writes were accepted
abbrev pub is_too_much : Estimate → List Row → ℕ → Bool
is_too_much estimate rows size = is_too_much_within buffer_limit estimate rows size

-- the first refusal of a command to a buffer that is not closed, in the order in which they are asked, or none
abbrev pub refusal_of : Estimate → List Row → Command → Option Refusal
refusal_of estimate rows command = refusal_within buffer_limit estimate rows command

-- the first refusal of a command to a buffer after a history, or none
abbrev pub first_refusal : Estimate → List Command → Command → Option Refusal
first_refusal estimate commands command = first_refusal_within buffer_limit estimate commands command

-- the answer of a buffer to one more command: its first refusal, or its reply
abbrev pub answer_to : Settings → List Command → Command → Result Reply Refusal
answer_to settings commands command = answer_within buffer_limit settings commands command

-- a command is accepted after a history exactly if its answer is a reply
abbrev pub is_accepted : Settings → List Command → Command → Bool
is_accepted settings commands command = is_accepted_within buffer_limit settings commands command

-- whether commands that come after a history are accepted, one after another
abbrev pub are_accepted : Settings → List Command → List Command → Bool
are_accepted settings earlier commands = are_accepted_within buffer_limit settings earlier commands

-- the accepted commands once one more has this result: a refused one has no effect
abbrev pub commands_with : {A : Type 0} → List Command → Command → Result A Refusal → List Command
commands_with commands command result = if is_ok result then commands ++ command ∷ [] else commands

-- the accepted commands after one more command under a limit on writes
abbrev pub commands_after_within : Option ℕ → Settings → List Command → Command → List Command
commands_after_within limit settings commands command =
    commands_with commands command (answer_within limit settings commands command)

-- the accepted commands of a buffer after one more command
abbrev pub commands_after : Settings → List Command → Command → List Command
commands_after settings commands command = commands_after_within buffer_limit settings commands command

-- the result of a call as that of the model, if this is what its value says
abbrev pub told_by : {A : Type 0} → (A → Reply) → Result A Refusal → Result Reply Refusal
told_by tell (Ok value) = Ok (tell value)
told_by tell (Err refusal) = Err refusal

-- of commands that are given one after another under a limit on writes those that are accepted, oldest first
abbrev pub accepted_among_within : Option ℕ → Settings → List Command → List Command
accepted_among_within limit settings commands = fold (commands_after_within limit settings) [] commands

-- of commands that a new buffer is given those that are accepted
abbrev pub accepted_among : Settings → List Command → List Command
accepted_among settings commands = accepted_among_within buffer_limit settings commands
