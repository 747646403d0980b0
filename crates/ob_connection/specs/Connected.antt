-- What a contract sees of a connection, the history that it stands for, its limit on writes, its room, and what it shows
-- of its history, by the definitions of a buffer.
use Rattle.std.specs.Prelude.{◌+◌, ℕ, Bool, List, [], Option, Some, None, Result, ◌≡◌, length, true, ◌≤◌, nat_lt}
use Rattle.std.specs.Prelude.{if◌then◌else◌, option_map}
use Rattle.ob_types.specs.declared.command.Command.{Command}
use Rattle.ob_types.specs.declared.promise.Outcome.{Outcome}
use Rattle.ob_types.specs.declared.promise.PromiseId.{PromiseId}
use Rattle.ob_types.specs.declared.refusal.Refusal.{Refusal}
use Rattle.ob_types.specs.declared.reply.Reply.{Reply}
use Rattle.ob_seq.specs.Unsent.{Unsent, waiting_count, whole, Shrinks as RingShrinks}
use Rattle.ob_seq.specs.Answer.{accepted_among_within, answer_within, is_accepted_within, are_accepted_within}
use Rattle.ob_seq.specs.Answer.{first_refusal_within}
use Rattle.ob_seq.specs.Rows.{Settings, line, unflushed}
use Rattle.ob_seq.specs.Pending.{settled_along_within, StandsForWithin, GivesBy}
use Rattle.ob_types.specs.declared.message.Message.{Message}
use Rattle.ob_types.specs.declared.promise.PromiseState.{PromiseState}
use Rattle.ob_types.specs.declared.promise.PromiseState.TheVariants.{Waiting as StillWaiting, Fixed as IsFixed}
use Rattle.ob_types.specs.declared.promise.PromiseState.TheVariants.{Settled as IsSettled}
use Rattle.ob_seq.specs.Effect.{rows_after}
use Rattle.ob_seq.specs.Looks.{gathered_after, look_after, promise_after, current_after, front_promise_after}
use Rattle.ob_seq.specs.Looks.{flushed_after}
use Rattle.ob_seq.specs.declared.look.Look.{Look as BufferLook}
use Rattle.ob_connection.specs.declared.look.Look.{Look}
use Rattle.ob_connection.specs.declared.status.Status.{Status}
use Rattle.ob_connection.specs.declared.status.Status.TheVariants.{Waiting, Fixed, Settled, SettledBefore}

-- what waits to be sent, each message with its promise, and how many messages are gone: their promises are settled, and
-- their outcomes stand nowhere
pub record Connected : Type 0 where
  pub unsent : Unsent
  pub gone : ℕ

-- how many writes were accepted, which is the id of the next one
abbrev pub accepted_writes : Connected → ℕ
accepted_writes connection = connection.gone + waiting_count connection.unsent

-- the most writes of a connection, so that ids are 64 bits: at a write each nanosecond 584 years
abbrev pub most_ids : ℕ
most_ids = 18446744073709551615

-- the limit on the writes of a connection
abbrev pub connection_limit : Option ℕ
connection_limit = Some most_ids

-- the answer of a connection to one more command: its first refusal, or its reply
abbrev pub answer_of_connection : Settings → List Command → Command → Result Reply Refusal
answer_of_connection settings commands command = answer_within connection_limit settings commands command

-- whether a connection accepts a command after a history
abbrev pub connection_accepts : Settings → List Command → Command → Bool
connection_accepts settings commands command = is_accepted_within connection_limit settings commands command

-- whether a connection accepts these commands, one after another
abbrev pub connection_accepts_all : Settings → List Command → Bool
connection_accepts_all settings commands = are_accepted_within connection_limit settings [] commands

-- the answer to one more command if there were no limit on writes
abbrev pub answer_without_limit : Settings → List Command → Command → Result Reply Refusal
answer_without_limit settings commands command = answer_within None settings commands command

-- of commands that a new connection is given one after another those that it accepts, oldest first
abbrev pub accepted_by_connection : Settings → List Command → List Command
accepted_by_connection settings commands = accepted_among_within connection_limit settings commands

-- what the answers of a new connection settle that is given commands one after another
abbrev pub settled_by_connection : Settings → List Command → List (PromiseId × Outcome)
settled_by_connection settings commands = settled_along_within connection_limit settings [] commands

-- a connection stands for a history if it does so as a buffer, under its own limit, once outcomes are given to the messages
-- that are gone: those stand nowhere in memory
pub record StandsFor (connection : Connected) (commands : List Command) : Type 0 where
  pub past : List Outcome
  pub forgotten : length past ≡ connection.gone
  pub as_buffer : StandsForWithin connection_limit (whole past connection.unsent) commands

-- a connection stands for some history
abbrev pub StandsForSome : Connected → Type 0
StandsForSome connection = (commands : List Command) × StandsFor connection commands

-- whatever history the connection stands for, the value is what this gives after it
abbrev pub Gives : {A : Type 0} → Connected → (Settings → List Command → A) → A → Type 0
Gives connection after value = GivesBy (StandsFor connection) connection.unsent.settings after value

-- how many messages may wait in a connection before memory is taken for one more
abbrev pub room_in : Connected → ℕ
room_in connection = connection.unsent.room

-- a connection with the room and the memory of another, and otherwise as it was
abbrev pub roomed : Connected → Connected → Connected
roomed other connection =
    record connection { unsent = record connection.unsent { room = other.unsent.room; capacity = other.unsent.capacity } }

-- there is room for as many as before
abbrev pub KeepsRoom : Connected → Connected → Type 0
KeepsRoom old new = room_in new ≡ room_in old

-- there is room for no more than before
abbrev pub TakesNoRoom : Connected → Connected → Type 0
TakesNoRoom old new = room_in new ≤ room_in old

-- what waits shrinks, and all else is as it was
pub record Shrinks (old new : Connected) : Type 0 where
  pub same : new ≡ record old { unsent = new.unsent }
  pub unsent : RingShrinks old.unsent new.unsent

-- the look of a connection as that of a buffer
abbrev pub look_told : Look → BufferLook
look_told look = record {
  total = look.total;
  word = look.word;
  size = look.size;
  before_unwritable = look.before_unwritable;
  before_writable = look.before_writable;
  current_progress = look.current_progress;
}

-- whatever history the connection stands for, the look is the look after it
abbrev pub Shows : Connected → Look → Type 0
Shows connection look = Gives connection look_after (look_told look)

-- how many messages no flush has reached after a history
abbrev pub unflushed_count_after : Settings → List Command → ℕ
unflushed_count_after settings commands = length (unflushed (rows_after settings.estimate commands))

-- how many messages wait after a history, those in line and those that no flush has reached
abbrev pub waiting_count_after : Settings → List Command → ℕ
waiting_count_after settings commands =
    length (line (rows_after settings.estimate commands)) + unflushed_count_after settings commands

-- what is reported of a promise with this id: its state, but not the outcome of one whose message is gone
abbrev pub status_of : ℕ → ℕ → Option PromiseState → Option Status
status_of gone id None = None
status_of gone id (Some StillWaiting) = Some Waiting
status_of gone id (Some IsFixed) = Some Fixed
status_of gone id (Some (IsSettled outcome)) = if nat_lt id gone then Some SettledBefore else Some (Settled outcome)

-- what is reported of the promise of a message that waits
abbrev pub waiting_status : PromiseState → Status
waiting_status StillWaiting = Waiting
waiting_status IsFixed = Fixed
waiting_status (IsSettled outcome) = Settled outcome

-- whatever history the connection stands for, this is what is reported of the promise after it
abbrev pub Tells : Connected → ℕ → Option Status → Type 0
Tells connection id status =
    Gives connection
    (λ settings commands. status_of connection.gone id (promise_after settings commands (record { 0 = id }))) status

-- whatever history the connection stands for, this is the first refusal of one more command after it, or there is none
abbrev pub Refuses : Connected → Command → Option Refusal → Type 0
Refuses connection command refusal =
    Gives connection
    (λ settings commands. first_refusal_within connection_limit settings.estimate commands command) refusal

-- whatever history the connection stands for, this is the promise of the front after it
abbrev pub IsFrontPromise : Connected → Option ℕ → Type 0
IsFrontPromise connection id =
    Gives connection (λ settings commands. option_map (λ front. front.0) (front_promise_after settings commands)) id

-- whatever history the connection stands for, these blocks are what is gathered after it
abbrev pub AreGathered : Connected → ℕ → ℕ → List (List ℕ) → Type 0
AreGathered connection max_count max_bytes blocks =
    Gives connection (λ settings commands. gathered_after settings commands max_count max_bytes) blocks

-- whatever history the connection stands for, this is the unread part of the front after it
abbrev pub IsCurrent : Connected → Option Message → Type 0
IsCurrent connection message = Gives connection current_after message

-- whatever history the connection stands for, these are the unread parts of the flushed messages after it
abbrev pub AreFlushed : Connected → List Message → Type 0
AreFlushed connection messages = Gives connection flushed_after messages
