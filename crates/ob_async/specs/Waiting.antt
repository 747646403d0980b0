-- Who waits for a connection, and for what.
use Rattle.std.specs.Prelude.{◌≡◌, ◌⊎◌, ℕ, List, Option, Some, None, IsSome, true, if◌then◌else◌}
use Rattle.ob_types.specs.declared.command.Command.{Command}
use Rattle.ob_seq.specs.Rows.{Settings}
use Rattle.ob_seq.specs.State.{closed_after, empty_after, writable_after}
use Rattle.ob_connection.specs.Connected.{Connected, Gives, StandsFor}
use Rattle.futures.specs.Slot.{TaskId, polled_task}
use Rattle.futures.specs.WaitList.{WaitList, IsQueued, SameValues}
use Rattle.futures.specs.declared.task.context.Context.{Context}
use Rattle.ob_async.specs.declared.moment.Moment.{Moment}
use Rattle.ob_async.specs.declared.moment.Moment.TheVariants.{Ready, Closed}

-- what a writer finds after a history: that the connection is closed, or that it is writable, or nothing yet
abbrev pub room_after : Settings → List Command → Option Moment
room_after settings commands =
    if closed_after settings commands then Some Closed else if writable_after settings commands then Some Ready else None

-- what the task that sends finds after a history: a flushed message, or that the connection is closed, or nothing yet
abbrev pub work_after : Settings → List Command → Option Moment
work_after settings commands =
    if empty_after settings commands then (if closed_after settings commands then Some Closed else None) else Some Ready

-- whatever history the connection stands for, one who waits for this finds it after it
abbrev pub Finds : (Settings → List Command → Option Moment) → Connected → Moment → Type 0
Finds after connection moment = Gives connection after (Some moment)

-- whatever history the connection stands for, one who waits for this finds nothing after it
abbrev pub MustWait : (Settings → List Command → Option Moment) → Connected → Type 0
MustWait after connection = Gives connection after None

-- a connection, its writers' places, each with the task that its waker wakes, and the task that waits to send
pub record TaskConnectionValue : Type 0 where
  pub connection : Connected
  pub writers : WaitList (Unit {0})
  pub sender : Option TaskId

-- whatever history the connection stands for, if after it one who waits would find something, this is so
abbrev pub Once : (Settings → List Command → Option Moment) → Connected → Type 0 → Type 0
Once after connection fact =
    (commands : List Command) → StandsFor connection commands → IsSome (after connection.unsent.settings commands) → fact

-- whoever may go on has been woken: no writer is in the queue, and no task is left that waits to send
pub record AllWoken (it : TaskConnectionValue) : Type 0 where
  pub writers : Once room_after it.connection ((key : ℕ) → ¬ IsQueued it.writers key)
  pub sender : Once work_after it.connection (it.sender ≡ None)

-- those who may go on after a call were woken by it, and nobody else was; each who has a place keeps it
pub record WakesJust (old new : TaskConnectionValue) : Type 0 where
  pub woken : AllWoken new
  pub writers : MustWait room_after new.connection → new.writers ≡ old.writers
  pub sender : MustWait work_after new.connection → new.sender ≡ old.sender
  pub places : SameValues old.writers new.writers

-- the task that is polled is the one that is woken once there is something to send, unless memory for its waker was refused
abbrev pub IsLeftToSend : Context → Context → TaskConnectionValue → Type 0
IsLeftToSend old new it = (new.lacks_waker ≡ true) ⊎ (it.sender ≡ Some (polled_task old))
