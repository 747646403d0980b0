-- What a contract sees of a managed connection, the events that it stands for, why a write is refused, and what one
-- brings.
use Rattle.std.specs.Prelude.{◌≡◌, ◌≤◌, ℕ, Bool, List, ◌++◌, ◌+◌, false, ◌||◌, [], ◌∷◌, Option, Some, None, option_map}
use Rattle.std.specs.Prelude.{Result, Ok, Err, nat_lt, if◌then◌else◌, IfOk, IfErr, OnOk}
use Rattle.ob_types.specs.PendingSize.{counted_bytes, is_oversize}
use Rattle.ob_types.specs.declared.command.Command.TheVariants.{Write}
use Rattle.ob_types.specs.declared.message.Message.{Message}
use Rattle.ob_types.specs.declared.refusal.Refusal.{Refusal}
use Rattle.ob_types.specs.declared.refusal.Refusal.TheVariants.{Closed, NoMemory, Oversize}
use Rattle.ob_seq.specs.Answer.{refusal_within}
use Rattle.ob_seq.specs.Effect.{rows_after}
use Rattle.ob_seq.specs.Rows.{total}
use Rattle.ob_seq.specs.State.{is_closed}
use Rattle.ob_seq.specs.Unsent.{room_for_one_more}
use Rattle.ob_connection.specs.Connected.{Connected, StandsFor as ConnectionStandsFor, connection_limit, room_in}
use Rattle.ob_connection.specs.Obeying.{Obeys, written_reply}
use Rattle.ob_connection.specs.declared.replies.Written.{Written}
use Rattle.ob_lifecycle.specs.Events.{most_told, tally_after, accepted_after, is_untold, Event, Opened, commands_in}
use Rattle.ob_lifecycle.specs.Events.{finishes, is_finishing, was_over, Accepted, Refused as WasRefused}
use Rattle.ob_lifecycle.specs.Strain.{watch_after, strain_after}
use Rattle.ob_lifecycle.specs.declared.ending.Ending.{Ending}
use Rattle.ob_lifecycle.specs.declared.fault.WriteFault.{WriteFault}
use Rattle.ob_lifecycle.specs.declared.fault.WriteFault.TheVariants.{Refused, Finishing, Full}
use Rattle.ob_lifecycle.specs.declared.limits.Limits.{Limits}
use Rattle.ob_lifecycle.specs.declared.strain.Strain.{Strain}
use Rattle.ob_lifecycle.specs.declared.tally.Tally.{Tally}

-- a connection, its limits, the time at which it was opened, and what is kept of its life
pub record Managed : Type 0 where
  pub connection : Connected
  pub limits : Limits
  pub opened : ℕ
  pub ending : Ending
  pub tally : Tally
  pub strain : Strain

-- what it was opened with
abbrev pub opened_as : Managed → Opened
opened_as managed =
    record { settings = managed.connection.unsent.settings; limits = managed.limits; now = managed.opened }

-- a managed connection stands for events if its connection stands for the commands among them, and what is kept beside
-- it is what the definitions give of them
pub record StandsFor (managed : Managed) (events : List Event) : Type 0 where
  pub commands : ConnectionStandsFor managed.connection (commands_in events)
  pub asked : managed.ending.asked ≡ is_finishing events
  pub over : managed.ending.over ≡ was_over (opened_as managed) events
  pub watch : managed.ending.watch ≡ watch_after (opened_as managed) events
  pub tally : managed.tally ≡ tally_after (opened_as managed) events
  pub strain : managed.strain ≡ strain_after (opened_as managed) events
  pub messages : managed.tally.accepted.messages ≤ most_told
  pub bytes : managed.tally.accepted.bytes ≤ most_told

-- a managed connection stands for some events
abbrev pub StandsForSome : Managed → Type 0
StandsForSome managed = (events : List Event) × StandsFor managed events

-- whatever events it stands for, the value is what this gives after them
abbrev pub Gives : {A : Type 0} → Managed → (Opened → List Event → A) → A → Type 0
Gives managed after value =
    (events : List Event) → StandsFor managed events → value ≡ after (opened_as managed) events

-- a call brings these events: whatever events the old one stands for, the new one stands for them and then these, and it
-- was opened alike; and the call tells that the end is reached exactly if these reach it
pub record Brings (old : Managed) (brought : List Event) (finished : Bool) (new : Managed) : Type 0 where
  pub opened : opened_as new ≡ opened_as old
  pub stands : (events : List Event) → StandsFor old events → StandsFor new (events ++ brought)
  pub told : Gives old (λ opened events. finishes opened events brought) finished

-- whether a message is past the cap: with it more bytes would be pending than may be, or more was written than 64 bits
-- can tell
abbrev pub is_past_the_cap : Opened → List Event → ℕ → Bool
is_past_the_cap opened events size =
    nat_lt opened.limits.most_pending (total (rows_after opened.settings.estimate (commands_in events)) + size)
    || is_untold (accepted_after opened events) size

-- why a write is refused after events, or nothing: the connection is closed, its end was asked for, the message is too
-- large to be counted, it is past the cap, or the connection refuses it; memory comes last
abbrev pub fault_of_write : Message → Opened → List Event → Option WriteFault
fault_of_write message opened events =
    let estimate = opened.settings.estimate in
    if is_closed (commands_in events) then Some (Refused Closed)
    else (if is_finishing events then Some Finishing
    else (if is_oversize estimate message then Some (Refused Oversize)
    else (if is_past_the_cap opened events (counted_bytes estimate message) then Some Full
    else option_map (λ refusal. Refused refusal)
    (refusal_within connection_limit estimate (rows_after estimate (commands_in events)) (Write message)))))

-- why this write was refused, if it was
abbrev pub fault_in : {A E : Type 0} → (E → WriteFault) → Result A E → Option WriteFault
fault_in why (Ok written) = None
fault_in why (Err not) = Some (why not)

-- what a write brings
abbrev pub write_happens : {E : Type 0} → (E → WriteFault) → Message → Result Written E → List Event
write_happens why message (Ok written) = Accepted (Write message) ∷ []
write_happens why message (Err not) = WasRefused (why not) ∷ []

-- a result of the connection's write
abbrev pub accepted : Written → Result Written Refusal
accepted written = Ok written

-- and of one that it refused
abbrev pub declined : Refusal → Result Written Refusal
declined refusal = Err refusal

-- a write that was refused: by the connection, or the connection was not asked and is as it was
abbrev pub IsNotWritten : Connected → Message → WriteFault → Connected → Type 0
IsNotWritten old message (Refused refusal) new = Obeys old (Write message) written_reply (declined refusal) new
IsNotWritten old message Finishing new = new ≡ old
IsNotWritten old message Full new = new ≡ old

-- a write to a managed connection: its connection obeys it, or the message is not written; then the fault is the first that
-- there is, and that memory is out comes only if there is none
pub record WritesTo {E : Type 0} (why : E → WriteFault) (message : Message) (old : Managed) (result : Result Written E)
    (new : Managed) : Type 0 where
  pub written : IfOk result (λ written. Obeys old.connection (Write message) written_reply (accepted written) new.connection)
  pub room : OnOk result (room_in new.connection ≡ room_for_one_more old.connection.unsent)
  pub refused : IfErr result (λ not. IsNotWritten old.connection message (why not) new.connection)
  pub first : ¬ (fault_in why result ≡ Some (Refused NoMemory)) → Gives old (fault_of_write message) (fault_in why result)
  pub memory_last : fault_in why result ≡ Some (Refused NoMemory) → Gives old (fault_of_write message) None
  pub brings : Brings old (write_happens why message result) false new
