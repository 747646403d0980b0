-- What an export promises of a managed connection.
use Rattle.std.specs.Prelude.{◌≡◌, ℕ, ⊤, Bool, false, List, [], ◌∷◌, Option, Some, None, option_map, Result, Ok, Err}
use Rattle.ob_types.specs.Marks.{Marks}
use Rattle.ob_types.specs.Replies.{number_of}
use Rattle.ob_types.specs.declared.command.Command.TheVariants.{SetMarks}
use Rattle.ob_types.specs.declared.message.Message.{Message}
use Rattle.ob_types.specs.declared.message.Message.TheVariants.{Block as AsBlock}
use Rattle.ob_types.specs.declared.refusal.Refusal.{Refusal}
use Rattle.ob_seq.specs.Rows.{Settings}
use Rattle.ob_seq.specs.State.{writable_after, closed_after, empty_after}
use Rattle.ob_connection.specs.Connected.{Connected, Shrinks, Gives as ConnectionGives}
use Rattle.ob_connection.specs.Obeying.{done_reply}
use Rattle.ob_connection.specs.declared.replies.Written.{Written as WrittenReply}
use Rattle.ob_lifecycle.specs.Events.{Event, Finishing, Ticked, happens, is_finishing, was_over}
use Rattle.ob_lifecycle.specs.Managed.{Brings, Gives, Managed, StandsFor, opened_as, WritesTo}
use Rattle.ob_lifecycle.specs.Strain.{names_by, numbers_after}
use Rattle.ob_lifecycle.specs.declared.count.Count.{Count as CountReply}
use Rattle.ob_lifecycle.specs.declared.fault.Told.{Told}
use Rattle.ob_lifecycle.specs.declared.fault.WriteFault.{WriteFault}
use Rattle.ob_lifecycle.specs.declared.fault.WriteFault.TheVariants.{Refused, Finishing as IsFinishing, Full}
use Rattle.ob_lifecycle.specs.declared.limits.Limits.{Limits}
use Rattle.ob_lifecycle.specs.declared.numbers.Numbers.{Numbers as NumbersReply}
use Rattle.ob_lifecycle.specs.declared.refusals.Refusals.{Refusals as RefusalsReply}
use Rattle.ob_c.specs.Replies.{accepted, already_open, done, finishing, full, no_block, no_memory, not_open, status_in_c}
use Rattle.ob_c.specs.Calls.{ObeysFrugally, Relays}
use Rattle.ob_c.specs.Replies.{cancelled_in_c, changed_in_c, flushed_in_c, removed_in_c, taken_in_c, written_in_c}
use Rattle.ob_connection.specs.declared.replies.Flushed.{Flushed as FlushedReply}
use Rattle.ob_connection.specs.declared.replies.Removed.{Removed as RemovedReply}
use Rattle.ob_connection.specs.declared.replies.Taken.{Taken as TakenReply}
use Rattle.ob_types.specs.declared.reply.Change.{Change}
use Rattle.ob_c.specs.declared.managed_looks.Count.{Count}
use Rattle.ob_c.specs.declared.managed_looks.Numbers.{Numbers}
use Rattle.ob_c.specs.declared.managed_looks.Refusals.{Refusals}
use Rattle.ob_c.specs.declared.managed_looks.State.{State}
use Rattle.ob_c.specs.declared.replies.Written.{Written}
use Rattle.ob_c.specs.declared.told.ToldCancelled.{ToldCancelled}
use Rattle.ob_c.specs.declared.told.ToldChanged.{ToldChanged}
use Rattle.ob_c.specs.declared.told.ToldDone.{ToldDone}
use Rattle.ob_c.specs.declared.told.ToldFlushed.{ToldFlushed}
use Rattle.ob_c.specs.declared.told.ToldRemoved.{ToldRemoved}
use Rattle.ob_c.specs.declared.told.ToldTaken.{ToldTaken}

-- the connection of a managed one, if there is one
abbrev pub connection_of : Option Managed → Option Connected
connection_of handle = option_map (λ managed. managed.connection) handle

-- a managed connection with these settings, held to these limits, is opened at this time, unless there is one already, the
-- settings are refused, or memory runs out
abbrev pub OpensManaged : Option Managed → Result Settings ℕ → Limits → ℕ → ℕ → Option Managed → Type 0
OpensManaged (Some old) settings limits now status new = (status ≡ already_open) × (new ≡ Some old)
OpensManaged None (Err refused) limits now status new = (status ≡ refused) × (new ≡ None)
OpensManaged None (Ok settings) limits now status None = status ≡ no_memory
OpensManaged None (Ok settings) limits now status (Some new) =
    (status ≡ done) × (opened_as new ≡ record { settings = settings; limits = limits; now = now }) × StandsFor new []

-- C is told whether there is a connection, which keeps room for what waits, and stands for what it did
abbrev pub ShrinksManaged : Option Managed → ℕ → Option Managed → Type 0
ShrinksManaged None status new = (status ≡ not_open) × (new ≡ None)
ShrinksManaged (Some old) status new =
    (status ≡ done) × (after : Managed) × (new ≡ Some after) × Shrinks old.connection after.connection
    × ((events : List Event) → StandsFor old events → StandsFor after events) × (opened_as after ≡ opened_as old)

-- the status of a write that was refused
abbrev pub managed_fault_number : WriteFault → ℕ
managed_fault_number (Refused refusal) = number_of refusal
managed_fault_number IsFinishing = finishing
managed_fault_number Full = full

-- what a write has to report: its reply, or else the status of a handle that holds nothing, or of its refusal
abbrev pub reported_write : Option (Result WrittenReply WriteFault) → Result WrittenReply ℕ
reported_write None = Err not_open
reported_write (Some (Err why)) = Err (managed_fault_number why)
reported_write (Some (Ok reply)) = Ok reply

-- a message is written, if there is a connection, and C is told the promise or why there is none
abbrev pub WritesFor : Option Managed → Message → Written → Option Managed → Type 0
WritesFor handle message told new =
    Relays handle (WritesTo (λ why. why) message) (λ answer. written_in_c (reported_write answer)) told new

-- the bytes of a block are written, if there are both a connection and a block
abbrev pub WritesBlockFor : Option Managed → Option (List ℕ) → Written → Option Managed → Type 0
WritesBlockFor None bytes told new = (told ≡ written_in_c (Err not_open)) × (new ≡ None)
WritesBlockFor (Some old) None told new = (told ≡ written_in_c (Err no_block)) × (new ≡ Some old)
WritesBlockFor (Some old) (Some bytes) told new = WritesFor (Some old) (AsBlock bytes) told new

-- what a command has to report, and whether the end is reached by it
abbrev pub reported : {A : Type 0} → Option (Told (Result A Refusal)) → Result A ℕ × Bool
reported None = (Err not_open, false)
reported (Some told) = (accepted (Some told.answer), told.finished)

-- a managed connection does what its connection does, and the call brings these events
abbrev pub Manages : {A : Type 0} → (Connected → Result A Refusal → Connected → Type 0) → (Result A Refusal → List Event)
    → Managed → Told (Result A Refusal) → Managed → Type 0
Manages does brought old told new =
    does old.connection told.answer new.connection × Brings old (brought told.answer) told.finished new

-- the same of a handle: C is told the answer, and whether the end is reached by it
abbrev pub ManagesFor : {A C : Type 0} → Option Managed → (Connected → Result A Refusal → Connected → Type 0)
    → (Result A Refusal → List Event) → (Result A ℕ × Bool → C) → C → Option Managed → Type 0
ManagesFor handle does brought in_c told new = Relays handle (Manages does brought) (λ answer. in_c (reported answer)) told new

-- marks are set, if there is a connection and they are marks
abbrev pub SetsMarksFor : Option Managed → Result Marks Refusal → ToldDone → Option Managed → Type 0
SetsMarksFor None marks told new = (told ≡ record { status = not_open; finished = false }) × (new ≡ None)
SetsMarksFor (Some old) (Err refusal) told new =
    (told ≡ record { status = number_of refusal; finished = false }) × (new ≡ Some old)
SetsMarksFor (Some old) (Ok marks) told new =
    ManagesFor (Some old) (ObeysFrugally (SetMarks marks) done_reply) (happens (SetMarks marks))
    (λ told. record { status = status_in_c told.0; finished = told.1 }) told new

-- the end is asked for, and this is whether it is reached by that
abbrev pub Finishes : Managed → Bool → Managed → Type 0
Finishes old finished new = Brings old (Finishing ∷ []) finished new × (new.connection ≡ old.connection)

-- the time is told, and this is whether it names the peer
abbrev pub Ticks : ℕ → Managed → Bool → Managed → Type 0
Ticks now old named new =
    Gives old (names_by now) named × Brings old (Ticked now ∷ []) false new × (new.connection ≡ old.connection)

-- a reply, and whether the end is reached by the call
abbrev pub told_done_in_c : Result ⊤ ℕ × Bool → ToldDone
told_done_in_c told = record { status = status_in_c told.0; finished = told.1 }

abbrev pub told_flushed_in_c : Result FlushedReply ℕ × Bool → ToldFlushed
told_flushed_in_c told = record { flushed = flushed_in_c told.0; finished = told.1 }

abbrev pub told_removed_in_c : Result RemovedReply ℕ × Bool → ToldRemoved
told_removed_in_c told = record { removed = removed_in_c told.0; finished = told.1 }

abbrev pub told_taken_in_c : Result TakenReply ℕ × Bool → ToldTaken
told_taken_in_c told = record { taken = taken_in_c told.0; finished = told.1 }

abbrev pub told_cancelled_in_c : Result Bool ℕ × Bool → ToldCancelled
told_cancelled_in_c told = record { cancelled = cancelled_in_c told.0; finished = told.1 }

abbrev pub told_changed_in_c : Result (Option Change) ℕ × Bool → ToldChanged
told_changed_in_c told = record { changed = changed_in_c told.0; finished = told.1 }

-- how a managed connection stands, each by the events that it stands for
pub record StandsSo (managed : Managed) (state : State) : Type 0 where
  pub status : state.status ≡ done
  pub writable : ConnectionGives managed.connection writable_after state.writable
  pub closed : ConnectionGives managed.connection closed_after state.closed
  pub empty : ConnectionGives managed.connection empty_after state.empty
  pub finishing : Gives managed (λ opened events. is_finishing events) state.finishing
  pub finished : Gives managed was_over state.finished

-- the same for C
abbrev pub state_in_c : Option State → State
state_in_c None = record {
  status = not_open;
  writable = false;
  closed = false;
  empty = false;
  finishing = false;
  finished = false;
}
state_in_c (Some state) = state

-- the numbers of a managed connection, by the events that it stands for
abbrev pub ShowsNumbers : Managed → NumbersReply → Type 0
ShowsNumbers managed numbers = Gives managed numbers_after numbers

-- messages, and the bytes that they count together
abbrev pub count_in_c : CountReply → Count
count_in_c count = record { messages = count.messages; bytes = count.bytes }

-- no messages
abbrev pub none : Count
none = record { messages = 0; bytes = 0 }

-- how often calls were refused, by the reason
abbrev pub refusals_in_c : RefusalsReply → Refusals
refusals_in_c refusals = record {
  closed = refusals.closed;
  finishing = refusals.finishing;
  oversize = refusals.oversize;
  full = refusals.full;
  too_much = refusals.too_much;
  no_memory = refusals.no_memory;
  nothing_flushed = refusals.nothing_flushed;
  too_far = refusals.too_far;
  too_many_bytes = refusals.too_many_bytes;
  bad_index = refusals.bad_index;
  flushed_left = refusals.flushed_left;
  unknown_promise = refusals.unknown_promise;
}

-- no refusals
abbrev pub none_refused : Refusals
none_refused = record {
  closed = 0;
  finishing = 0;
  oversize = 0;
  full = 0;
  too_much = 0;
  no_memory = 0;
  nothing_flushed = 0;
  too_far = 0;
  too_many_bytes = 0;
  bad_index = 0;
  flushed_left = 0;
  unknown_promise = 0;
}

-- what was written, and how it ended
abbrev pub numbers_in_c : Option NumbersReply → Numbers
numbers_in_c None = record {
  status = not_open;
  accepted = none;
  sent = none;
  failed = none;
  cancelled = none;
  pending = none;
  peak = 0;
  stops = 0;
  stopped = 0;
  refusals = none_refused;
}
numbers_in_c (Some numbers) = record {
  status = done;
  accepted = count_in_c numbers.accepted;
  sent = count_in_c numbers.sent;
  failed = count_in_c numbers.failed;
  cancelled = count_in_c numbers.cancelled;
  pending = count_in_c numbers.pending;
  peak = numbers.peak;
  stops = numbers.stops;
  stopped = numbers.stopped;
  refusals = refusals_in_c numbers.refusals;
}
