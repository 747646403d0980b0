-- What happens to a managed connection, one event after another, what a sending and a giving up bring, and the end in
-- order: it is asked for, then no write is accepted, and it is reached once nothing that was accepted is left. How
-- much was written to a connection, and how it ended: each number is a sum over all that happened.
use Rattle.std.specs.List.{flat_map, list_any, take_while}
use Rattle.std.specs.Prelude.{ℕ, List, [], ◌∷◌, ◌++◌, Option, Some, None, Result, Ok, Err, filter_map, fold, max, false}
use Rattle.std.specs.Prelude.{Bool, true, not, ◌&&◌, ◌==◌, ◌+◌, if◌then◌else◌, ◌-◌, ◌||◌, count_by, sum_by, ◌≡◌, ◌≤◌}
use Rattle.std.specs.Prelude.{nat_lt, reverse}
use Rattle.ob_types.specs.PendingSize.{counted_bytes}
use Rattle.ob_types.specs.Replies.{is_failed, is_cancelled}
use Rattle.ob_types.specs.Traits.{traits_of}
use Rattle.ob_types.specs.declared.command.Command.{Command}
use Rattle.ob_types.specs.declared.command.Command.TheVariants.{RemoveBytes, FailFlushed, Close, Write, Flush, Remove}
use Rattle.ob_types.specs.declared.command.Command.TheVariants.{RemoveWith, Progress, Cancel, UserBit, SetMarks}
use Rattle.ob_types.specs.declared.estimate.Estimate.{Estimate}
use Rattle.ob_types.specs.declared.message.Message.{Message}
use Rattle.ob_types.specs.declared.promise.Cause.{Cause}
use Rattle.ob_types.specs.declared.promise.Outcome.{Outcome}
use Rattle.ob_types.specs.declared.promise.Outcome.TheVariants.{Success, Failed, Cancelled}
use Rattle.ob_types.specs.declared.refusal.Refusal.{Refusal}
use Rattle.ob_seq.specs.Effect.{greatest, rows_after}
use Rattle.ob_seq.specs.Rows.{Settings, Row, is_unflushed, is_flushed, total}
use Rattle.ob_connection.specs.Connected.{waiting_count_after, Connected, StandsFor}
use Rattle.ob_connection.specs.declared.connection.sending.SendFault.{SendFault}
use Rattle.ob_connection.specs.declared.replies.Taken.{Taken}
use Rattle.ob_lifecycle.specs.declared.count.Count.{Count}
use Rattle.ob_lifecycle.specs.declared.fault.WriteFault.{WriteFault}
use Rattle.ob_lifecycle.specs.declared.fault.WriteFault.TheVariants.{Refused as Declined}
use Rattle.ob_lifecycle.specs.declared.limits.Limits.{Limits}
use Rattle.ob_lifecycle.specs.declared.tally.Tally.{Tally}

-- the connection accepted a command, a call was refused, the end was asked for, or the clock of the caller went on
pub data Event : Type 0 where
  Accepted : Command → Event
  Refused : WriteFault → Event
  Finishing : Event
  Ticked : ℕ → Event

-- what a managed connection was opened with: the settings of its connection, its limits, and the time
pub record Opened : Type 0 where
  pub settings : Settings
  pub limits : Limits
  pub now : ℕ

-- the command that was accepted, if one was
abbrev pub command_of : Event → Option Command
command_of (Accepted command) = Some command
command_of (Refused fault) = None
command_of Finishing = None
command_of (Ticked now) = None

-- the commands that were accepted, oldest first
abbrev pub commands_in : List Event → List Command
commands_in events = filter_map command_of events

-- the time that a tick tells
abbrev pub time_of : Event → Option ℕ
time_of (Accepted command) = None
time_of (Refused fault) = None
time_of Finishing = None
time_of (Ticked now) = Some now

-- the time after events: the greatest that was told, since a tick that is behind the last one tells nothing
abbrev pub clock_after : Opened → List Event → ℕ
clock_after opened events = fold max opened.now (filter_map time_of events)

-- what happens by a command that gave this result
abbrev pub happens : {A : Type 0} → Command → Result A Refusal → List Event
happens command (Ok value) = Accepted command ∷ []
happens command (Err refusal) = Refused (Declined refusal) ∷ []

-- what is so of events that come one after another behind others, each by those before it
abbrev pub along_from : {A : Type 0} → (List Event → Event → A) → List Event → List Event → List A
along_from value earlier [] = []
along_from value earlier (event ∷ events) =
    value earlier event ∷ along_from value (earlier ++ event ∷ []) events

-- what is so of each event, by those before it
abbrev pub along : {A : Type 0} → (List Event → Event → A) → List Event → List A
along value events = along_from value [] events

-- what a sending brings: that the bytes were removed which it sent, or nothing if it has a fault
abbrev pub sending_happens : {A : Type 0} → (A → ℕ) → Result A SendFault → List Event
sending_happens bytes (Ok done) = Accepted (RemoveBytes (bytes done)) ∷ []
sending_happens bytes (Err fault) = []

-- what a giving up brings: what is flushed fails, and the connection closes
abbrev pub giving_up_happens : Cause → Result Taken Refusal → List Event
giving_up_happens cause (Ok taken) = Accepted (FailFlushed cause false) ∷ Accepted (Close cause) ∷ []
giving_up_happens cause (Err refusal) = Refused (Declined refusal) ∷ []

-- whether this asks for the end
abbrev pub asks_for_the_end : Event → Bool
asks_for_the_end (Accepted command) = false
asks_for_the_end (Refused fault) = false
asks_for_the_end Finishing = true
asks_for_the_end (Ticked now) = false

-- whether the end was asked for
abbrev pub is_finishing : List Event → Bool
is_finishing events = list_any asks_for_the_end events

-- whether the end was asked for, and no message waits
abbrev pub is_over : Opened → List Event → Bool
is_over opened events =
    is_finishing events && (waiting_count_after opened.settings (commands_in events) == 0)

-- whether that is so at the moment after this event
abbrev pub is_over_by : Opened → List Event → Event → Bool
is_over_by opened earlier event = is_over opened (earlier ++ event ∷ [])

-- whether there was such a moment
abbrev pub was_over : Opened → List Event → Bool
was_over opened events = list_any (λ over. over) (along (is_over_by opened) events)

-- whether a call tells that the end is reached: there is such a moment by what the call brought, and was none before
abbrev pub finishes : Opened → List Event → List Event → Bool
finishes opened earlier brought = was_over opened (earlier ++ brought) && not (was_over opened earlier)

-- all that calls brought, one after another
abbrev pub all_of : List (List Event) → List Event
all_of calls = flat_map (λ brought. brought) calls

-- how many of these calls tell it, each by what it brought, once these events were before them
abbrev pub times_told_from : Opened → List Event → List (List Event) → ℕ
times_told_from opened earlier [] = 0
times_told_from opened earlier (brought ∷ calls) =
    (if finishes opened earlier brought then 1 else 0) + times_told_from opened (earlier ++ brought) calls

-- how many of the calls of a new connection tell that the end is reached
abbrev pub times_told : Opened → List (List Event) → ℕ
times_told opened calls = times_told_from opened [] calls

-- no messages, and no bytes
abbrev pub none : Count
none = record { messages = 0; bytes = 0 }

-- two counts together
abbrev pub plus : Count → Count → Count
plus count other = record { messages = count.messages + other.messages; bytes = count.bytes + other.bytes }

-- what one count has more than another
abbrev pub beyond : Count → Count → Count
beyond count other = record { messages = count.messages - other.messages; bytes = count.bytes - other.bytes }

-- several counts together
abbrev pub together : List Count → Count
together counts =
    record { messages = sum_by (λ count. count.messages) counts; bytes = sum_by (λ count. count.bytes) counts }

-- whether a message is pending: no flush has reached it, or it is flushed and was not voided
abbrev pub is_pending : Row → Bool
is_pending row = is_unflushed row.place || is_flushed row.place

-- the pending messages, and the pending bytes
abbrev pub pending_among : List Row → Count
pending_among rows = record { messages = count_by is_pending rows; bytes = total rows }

-- what is pending after a history
abbrev pub pending_after : Settings → List Command → Count
pending_after settings commands = pending_among (rows_after settings.estimate commands)

-- what one more command lets go of: it is pending before it and not after it
abbrev pub let_go_by : Settings → List Command → Command → Count
let_go_by settings commands command =
    beyond (pending_after settings commands) (pending_after settings (commands ++ command ∷ []))

-- how a command ends what it lets go of: a flush what was cancelled, and a close fails all that it finds
abbrev pub ends_as : Command → Option Outcome
ends_as (Write message) = None
ends_as Flush = Some Cancelled
ends_as Remove = Some Success
ends_as (RemoveWith cause) = Some (Failed cause)
ends_as (RemoveBytes n) = Some Success
ends_as (Progress n) = None
ends_as (Cancel id) = None
ends_as (FailFlushed cause notify) = Some (Failed cause)
ends_as (Close cause) = Some (Failed cause)
ends_as (UserBit index writable) = None
ends_as (SetMarks marks) = None

-- whether there is an outcome, and it is such a one
abbrev pub is_such : (Outcome → Bool) → Option Outcome → Bool
is_such such None = false
is_such such (Some outcome) = such outcome

-- a message, if there is one
abbrev pub one_of : Estimate → Option Message → Count
one_of estimate None = none
one_of estimate (Some message) = record { messages = 1; bytes = counted_bytes estimate message }

-- what a command writes
abbrev pub written_of : Settings → Command → Count
written_of settings command = one_of settings.estimate (traits_of command).message

-- what one more command ends with such an outcome
abbrev pub ended_of : (Outcome → Bool) → Settings → List Command → Command → Count
ended_of such settings commands command =
    if is_such such (ends_as command) then let_go_by settings commands command else none

-- what an event writes
abbrev pub written_by : Opened → List Event → Event → Count
written_by opened earlier (Accepted command) = written_of opened.settings command
written_by opened earlier (Refused fault) = none
written_by opened earlier Finishing = none
written_by opened earlier (Ticked now) = none

-- what an event ends with such an outcome
abbrev pub ended_by : (Outcome → Bool) → Opened → List Event → Event → Count
ended_by such opened earlier (Accepted command) = ended_of such opened.settings (commands_in earlier) command
ended_by such opened earlier (Refused fault) = none
ended_by such opened earlier Finishing = none
ended_by such opened earlier (Ticked now) = none

-- all that was written
abbrev pub accepted_after : Opened → List Event → Count
accepted_after opened events = together (along (written_by opened) events)

-- all that ended with such an outcome
abbrev pub ended_after : (Outcome → Bool) → Opened → List Event → Count
ended_after such opened events = together (along (ended_by such opened) events)

-- the pending bytes at the moment after an event
abbrev pub reached_by : Opened → List Event → Event → ℕ
reached_by opened earlier event =
    total (rows_after opened.settings.estimate (commands_in (earlier ++ event ∷ [])))

-- the peak: the greatest that the pending bytes were at any moment
abbrev pub peak_after : Opened → List Event → ℕ
peak_after opened events = greatest (along (reached_by opened) events)

-- the greatest number that is told: 64 bits
abbrev pub most_told : ℕ
most_told = 18446744073709551615

-- whether one more message of this size is more than the numbers can tell
abbrev pub is_untold : Count → ℕ → Bool
is_untold count size = nat_lt most_told (count.bytes + size) || nat_lt most_told (count.messages + 1)

-- whether a cancellation was accepted since the last flush
abbrev pub cancels_wait : List Command → Bool
cancels_wait commands =
    list_any (λ command. (traits_of command).cancel) (take_while (λ command. not (traits_of command).flush) (reverse commands))

-- what is kept of the numbers of a connection
abbrev pub tally_after : Opened → List Event → Tally
tally_after opened events = record {
  accepted = accepted_after opened events;
  failed = ended_after is_failed opened events;
  cancelled = ended_after is_cancelled opened events;
  peak = peak_after opened events;
  cancels = cancels_wait (commands_in events);
}

-- and once one more command was accepted
abbrev pub tally_by : Settings → List Command → Command → Tally → Tally
tally_by settings commands command tally = record {
  accepted = plus tally.accepted (written_of settings command);
  failed = plus tally.failed (ended_of is_failed settings commands command);
  cancelled = plus tally.cancelled (ended_of is_cancelled settings commands command);
  peak = max tally.peak (total (rows_after settings.estimate (commands ++ command ∷ [])));
  cancels = cancels_wait (commands ++ command ∷ []);
}

-- the numbers fit commands: the peak is no less than what is pending, and what ended and what is pending is no more than
-- a number can be
pub record Fits (settings : Settings) (commands : List Command) (tally : Tally) : Type 0 where
  pub cancels : tally.cancels ≡ cancels_wait commands
  pub peak : (pending_after settings commands).bytes ≤ tally.peak
  pub messages : (tally.failed.messages + tally.cancelled.messages) + (pending_after settings commands).messages ≤ most_told
  pub bytes : (tally.failed.bytes + tally.cancelled.bytes) + (pending_after settings commands).bytes ≤ most_told

-- a call counts a command if, whatever commands the connection stood for that the numbers fit, they are what the command
-- makes of them; a refusal leaves them
abbrev pub Counts : {A E : Type 0} → Connected → Tally → Command → Result A E → Tally → Type 0
Counts old tally command (Ok value) new =
    (commands : List Command) → StandsFor old commands → Fits old.unsent.settings commands tally
    → new ≡ tally_by old.unsent.settings commands command tally
Counts old tally command (Err refusal) new = new ≡ tally

-- the same of a giving up, which is two commands
abbrev pub CountsGivingUp : {A E : Type 0} → Connected → Tally → Cause → Result A E → Tally → Type 0
CountsGivingUp old tally cause (Ok value) new =
    (commands : List Command) → StandsFor old commands → Fits old.unsent.settings commands tally
    → new ≡ tally_by old.unsent.settings (commands ++ FailFlushed cause false ∷ []) (Close cause)
    (tally_by old.unsent.settings commands (FailFlushed cause false) tally)
CountsGivingUp old tally cause (Err refusal) new = new ≡ tally

-- the connection stands for some commands that the numbers fit
abbrev pub FitsSome : Connected → Tally → Type 0
FitsSome connection tally =
    (commands : List Command) × StandsFor connection commands × Fits connection.unsent.settings commands tally
