-- How a managed connection is kept. No public clause cites it.
use Rattle.std.specs.Prelude.{◌≡◌, ◌<◌, ◌+◌, ℕ, Bool, true, false, List, Option, Some, None, if◌then◌else◌}
use Rattle.ob_types.specs.PendingSize.{counted_bytes, is_oversize}
use Rattle.ob_types.specs.declared.message.Message.{Message}
use Rattle.ob_seq.specs.State.{is_closed}
use Rattle.ob_types.specs.declared.refusal.Refusal.TheVariants.{NoMemory}
use Rattle.ob_lifecycle.specs.Events.{most_told, Event, Opened, commands_in, is_finishing}
use Rattle.ob_lifecycle.specs.Managed.{Gives, Managed, StandsFor, opened_as, IsNotWritten, fault_of_write}
use Rattle.ob_lifecycle.specs.Managed.{is_past_the_cap}
use Rattle.ob_lifecycle.specs.declared.fault.WriteFault.{WriteFault}
use Rattle.ob_lifecycle.specs.declared.fault.WriteFault.TheVariants.{Refused, Finishing, Full}
use Rattle.ob_lifecycle.specs.declared.managed.ManagedConnection.TheInside.{Inside}

-- what a contract sees of what is kept
abbrev pub managed_of : Inside → Managed
managed_of inside = record {
  connection = inside.connection;
  limits = inside.limits;
  opened = inside.opened;
  ending = inside.ending;
  tally = inside.tally;
  strain = inside.strain;
}

-- why a write is refused before the connection is asked, by whether it is closed, its end was asked for, the message is too
-- large to be counted, and it is past the cap
abbrev pub own_fault_by : Bool → Bool → Bool → Bool → Option WriteFault
own_fault_by closed finishing oversize past =
    if closed then None
    else (if finishing then Some Finishing else (if oversize then None else (if past then Some Full else None)))

-- why a write of a message is refused after events before the connection is asked
abbrev pub own_fault : Message → Opened → List Event → Option WriteFault
own_fault message opened events =
    own_fault_by (is_closed (commands_in events)) (is_finishing events) (is_oversize opened.settings.estimate message)
    (is_past_the_cap opened events (counted_bytes opened.settings.estimate message))

-- there is room for a message: nothing of ours refuses a write of it, the numbers can tell it, and with it this many bytes
-- were accepted in all
pub record HasRoom (message : Message) (managed : Managed) (sum : ℕ) : Type 0 where
  pub own : Gives managed (own_fault message) None
  pub messages : managed.tally.accepted.messages < most_told
  pub bytes : sum ≡ managed.tally.accepted.bytes + counted_bytes managed.connection.unsent.settings.estimate message

-- the bytes of all that was accepted with a message, if there is room for it; if there is none, a connection that goes on is
-- past its cap with it, unless it is too large to be counted
abbrev pub FitsIn : Message → Managed → Option ℕ → Type 0
FitsIn message managed (Some bytes) = HasRoom message managed bytes
FitsIn message managed None =
    (events : List Event) → StandsFor managed events → is_finishing events ≡ false
    → is_oversize managed.connection.unsent.settings.estimate message ≡ false
    → is_past_the_cap (opened_as managed) events (counted_bytes managed.connection.unsent.settings.estimate message) ≡ true

-- a write of a message is refused for this reason, which is not that memory is out, and nothing is written
pub record IsRefusedAs (message : Message) (managed : Managed) (why : WriteFault) : Type 0 where
  pub first : Gives managed (fault_of_write message) (Some why)
  pub left : IsNotWritten managed.connection message why managed.connection
  pub other : ¬ (Some why ≡ Some (Refused NoMemory))
