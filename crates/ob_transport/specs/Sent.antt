-- What a command, a record and a history send, and what a transport finds in the buffer of a history. What a sink has
-- taken, and what it is asked; what a contract sees of a sink of a script.
use Rattle.std.specs.List.{concat, flat_map}
use Rattle.std.specs.Prelude.{ℕ, List, [], take, Option, Some, None, option_map, if◌then◌else◌, ◌∷◌, sum_by, ◌+◌, ◌++◌}
use Rattle.std.specs.Prelude.{◌≡◌, ◌-◌, Result, Ok, Err, ◌<◌, ◌^◌, drop, length, min, IsErrOf}
use Rattle.ob_types.specs.declared.command.Command.{Command}
use Rattle.ob_types.specs.declared.command.Command.TheVariants.{Write, Flush, Remove, RemoveWith, RemoveBytes, Progress}
use Rattle.ob_types.specs.declared.command.Command.TheVariants.{Cancel, FailFlushed, Close, UserBit, SetMarks}
use Rattle.ob_types.specs.declared.estimate.Estimate.{Estimate}
use Rattle.ob_types.specs.declared.message.Message.{Message}
use Rattle.ob_types.specs.declared.message.Message.TheVariants.{Block, Region, Other}
use Rattle.ob_types.specs.declared.message.Message.TheVariants as message
use Rattle.ob_seq.specs.Effect.{block_bytes, byte_run, rows_after, effect}
use Rattle.ob_seq.specs.Looks.{current_after, progress_of, gathered_after}
use Rattle.ob_seq.specs.Rows.{Row, unread_part, front, Settings}
use Rattle.ob_history.specs.History.{accepted_commands, is_accepted, History}
use Rattle.ob_history.specs.declared.record.Record.{Record}
use Rattle.ob_transport.specs.declared.fault.Pass.{Pass}
use Rattle.ob_transport.specs.declared.fault.Pass.TheVariants.{Idle, Stalled, Cleared, Took}
use Rattle.ob_transport.specs.declared.fault.PassFault.{PassFault}
use Rattle.ob_transport.specs.declared.fault.PassFault.TheVariants.{Sink, HistoryFull, NoMemory, Unbooked}
use Rattle.ob_transport.specs.declared.limits.Limits.{Limits}
use Rattle.ob_transport.specs.declared.script.SinkStep.{SinkStep}
use Rattle.ob_transport.specs.declared.script.SinkStep.TheVariants.{Take, Fail}
use Rattle.ob_transport.specs.declared.sink.SinkFault.{SinkFault}

-- the bytes and the units of regions that a command sends
pub record Sent : Type 0 where
  pub bytes : List ℕ
  pub units : ℕ

-- no bytes and no units
abbrev pub nothing : Sent
nothing = record { bytes = []; units = 0 }

-- the unread bytes with which the line begins, up to the first message that is no block
abbrev pub unread_bytes : List Row → List ℕ
unread_bytes rows = concat (byte_run rows)

-- the unread bytes of the front: those of a flushed block, and none of any other
abbrev pub front_bytes : Option Row → List ℕ
front_bytes None = []
front_bytes (Some row) = block_bytes (unread_part row)

-- of *n* units of progress those that are sent: all if the front is a region, and else none
abbrev pub units_at : ℕ → Option Message → ℕ
units_at n None = 0
units_at n (Some (Block bytes)) = 0
units_at n (Some (Region length)) = n
units_at n (Some (Other value)) = 0

-- what one accepted command sends: a removal of n bytes the first n unread ones, the removal of the front the bytes of
-- the front, and progress its units; what is taken away as failed is not sent
abbrev pub sent_by : List Row → Command → Sent
sent_by rows (Write message) = nothing
sent_by rows Flush = nothing
sent_by rows Remove = record nothing { bytes = front_bytes (front rows) }
sent_by rows (RemoveWith cause) = nothing
sent_by rows (RemoveBytes n) = record nothing { bytes = take n (unread_bytes rows) }
sent_by rows (Progress n) = record nothing { units = units_at n (option_map unread_part (front rows)) }
sent_by rows (Cancel id) = nothing
sent_by rows (FailFlushed cause notify) = nothing
sent_by rows (Close cause) = nothing
sent_by rows (UserBit index writable) = nothing
sent_by rows (SetMarks marks) = nothing

-- what a record sends in a history: what its command sends after the records before its place, if it was accepted
abbrev pub sent_in : Settings → List Record → Record → Sent
sent_in settings records one =
    if is_accepted one
    then sent_by (rows_after settings.estimate (accepted_commands (take one.place records))) one.command
    else nothing

-- an accepted command, and the rows before it
pub record Occasion : Type 0 where
  pub rows : List Row
  pub command : Command

-- the occasions of accepted commands that find these rows, oldest first
abbrev pub occasions_from : Estimate → List Row → List Command → List Occasion
occasions_from estimate rows [] = []
occasions_from estimate rows (command ∷ commands) =
    record { rows = rows; command = command } ∷ occasions_from estimate (effect estimate rows command) commands

-- the occasions of a history, oldest first
abbrev pub occasions_in : Settings → List Record → List Occasion
occasions_in settings records = occasions_from settings.estimate [] (accepted_commands records)

-- the bytes that one accepted command sends
abbrev pub bytes_sent_by : List Row → Command → List ℕ
bytes_sent_by rows command = (sent_by rows command).bytes

-- the sent bytes of a history: those that its accepted commands send, joined in order
abbrev pub sent_bytes : Settings → List Record → List ℕ
sent_bytes settings records = flat_map (λ occasion. bytes_sent_by occasion.rows occasion.command) (occasions_in settings records)

-- the units that one accepted command sends
abbrev pub units_sent_by : List Row → Command → ℕ
units_sent_by rows command = (sent_by rows command).units

-- the sent units of a history: those that its accepted commands send, added up
abbrev pub sent_units : Settings → List Record → ℕ
sent_units settings records = sum_by (λ occasion. units_sent_by occasion.rows occasion.command) (occasions_in settings records)

-- the rows after the accepted commands of a history
abbrev pub rows_in : History → List Row
rows_in history = rows_after history.settings.estimate (accepted_commands history.records)

-- the message in front, as what is left of it
abbrev pub current_in : History → Option Message
current_in history = current_after history.settings (accepted_commands history.records)

-- the progress of the front
abbrev pub progress_in : History → ℕ
progress_in history = progress_of (front (rows_in history))

-- the blocks that can be sent at once within limits
abbrev pub gathered_in : Limits → History → List (List ℕ)
gathered_in limits history = gathered_after history.settings
    (accepted_commands history.records) limits.max_count limits.max_bytes

-- the unread bytes with which the line begins
abbrev pub unread_in : History → List ℕ
unread_in history = unread_bytes (rows_in history)

-- the sent bytes of a history, by its own settings
abbrev pub sent_bytes_in : History → List ℕ
sent_bytes_in history = sent_bytes history.settings history.records

-- the sent units of a history, by its own settings
abbrev pub sent_units_in : History → ℕ
sent_units_in history = sent_units history.settings history.records

-- the bytes and the units that were taken so far, and how many calls failed
pub record Content : Type 0 where
  pub bytes : List ℕ
  pub units : ℕ
  pub failures : ℕ

-- what was taken, and these bytes
abbrev pub with_more_bytes : List ℕ → Content → Content
with_more_bytes bytes content = record content { bytes = content.bytes ++ bytes }

-- what was taken, and `units` more units
abbrev pub with_more_units : ℕ → Content → Content
with_more_units units content = record content { units = content.units + units }

-- what was taken, and one more failure
abbrev pub with_failure : Content → Content
with_failure content = record content { failures = content.failures + 1 }

-- to take of these bytes, or of *n* units of a region
pub data Asked : Type 0 where
  OfBytes : List ℕ → Asked
  OfUnits : ℕ → Asked

-- the bytes are those of the blocks that can be sent at once, or the units are the rest of the region in front
abbrev pub StandsInFront : Limits → History → Asked → Type 0
StandsInFront limits history (OfBytes bytes) = bytes ≡ concat (gathered_in limits history)
StandsInFront limits history (OfUnits units) =
    (length : ℕ) × (current_in history ≡ Some (message.Region length)) × (units ≡ length - progress_in history)

-- the answer of a sink that the result of a pass shows, if it shows one
abbrev pub answer_told : Result Pass PassFault → Option (Result ℕ SinkFault)
answer_told (Ok Idle) = None
answer_told (Ok Stalled) = Some (Ok 0)
answer_told (Ok Cleared) = None
answer_told (Ok (Took n)) = Some (Ok n)
answer_told (Err (Sink fault)) = Some (Err fault)
answer_told (Err HistoryFull) = None
answer_told (Err NoMemory) = None
answer_told (Err (Unbooked taken)) = Some (Ok taken)

-- if no answer is shown, a sink is not asked, and is as it was; and if one is shown, the sink is asked once, for
-- something of this kind, and that is its answer
abbrev pub IsAskedOnce : {S : Type 0} → (S → Asked → Result ℕ SinkFault → S → Type 0) → (Asked → Type 0) → S →
    Option (Result ℕ SinkFault) → S → Type 0
IsAskedOnce does Kind before None after = after ≡ before
IsAskedOnce does Kind before (Some answer) after = (asked : Asked) × Kind asked × does before asked answer after

-- the steps that are left, how much is taken at most once none is, and what was taken
pub record Script : Type 0 where
  pub steps : List SinkStep
  pub most_after : ℕ
  pub content : Content

-- the script before its first call
abbrev pub new_script : List SinkStep → ℕ → Script
new_script steps after = record {
  steps = steps;
  most_after = after;
  content = record
      { bytes = []; units = 0; failures = 0 };
}

-- the first of some steps, or a taking of so much
abbrev pub first_step : List SinkStep → ℕ → SinkStep
first_step [] after = Take after
first_step (step ∷ steps) after = step

-- what the next call does
abbrev pub next_step : Script → SinkStep
next_step script = first_step script.steps script.most_after

-- the script with its next step used
abbrev pub with_step_used : Script → Script
with_step_used script = record script { steps = drop 1 script.steps }

-- what a step returns for a call that offers this much: it takes at most its number of it, or fails with its number
abbrev pub answer_by : SinkStep → ℕ → Result ℕ SinkFault
answer_by (Take most) offered = Ok (min most offered)
answer_by (Fail number) offered = Err (record { 0 = number })

-- the fault of a script's sink if memory was refused
abbrev pub wants_memory : SinkFault
wants_memory = record { 0 = 12 }

-- a call answers as the step says, unless a failure can't be counted any more, the units can't, or memory is refused
-- for bytes
abbrev pub AnswersBy : Script → Asked → Result ℕ SinkFault → Type 0
AnswersBy script (OfBytes bytes) answer = script.content.failures < 2 ^ 64 - 1 → ¬ IsErrOf answer wants_memory
    → answer ≡ answer_by (next_step script) (length bytes)
AnswersBy script (OfUnits units) answer = script.content.failures < 2 ^ 64 - 1
    → script.content.units + units < 2 ^ 128
    → answer ≡ answer_by (next_step script) units

-- a call uses the next step, and answers as it says
pub record Plays (before : Script) (asked : Asked) (answer : Result ℕ SinkFault) (after : Script) : Type 0 where
  pub answers : AnswersBy before asked answer
  pub used : after.steps ≡ drop 1 before.steps
  pub most_after : after.most_after ≡ before.most_after
