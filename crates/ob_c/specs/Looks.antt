-- What an export promises of a look.
use Rattle.std.specs.Prelude.{◌≡◌, ℕ, ◌-◌, Bool, true, false, List, length, Option, Some, None, option_map, Result, Ok, Err}
use Rattle.ob_types.specs.Marks.{Marks}
use Rattle.ob_types.specs.declared.command.Command.{Command}
use Rattle.ob_types.specs.declared.estimate.Estimate.{Estimate}
use Rattle.ob_types.specs.declared.message.Message.{Message}
use Rattle.ob_types.specs.declared.message.Message.TheVariants.{Block, Region, Other}
use Rattle.ob_seq.specs.Looks.{current_after, look_after}
use Rattle.ob_seq.specs.Rows.{Settings}
use Rattle.ob_seq.specs.State.{marks_after}
use Rattle.ob_connection.specs.Connected.{Connected, Gives}
use Rattle.ob_connection.specs.Connected.{unflushed_count_after, waiting_count_after}
use Rattle.ob_connection.specs.declared.look.Look.{Look as LookReply}
use Rattle.ob_connection.specs.declared.status.Status.{Status}
use Rattle.ob_connection.specs.declared.status.Status.TheVariants.{Waiting, Fixed, Settled, SettledBefore}
use Rattle.ob_c.specs.Replies.{done, not_open, outcome_number, cause_number}
use Rattle.ob_c.specs.Calls.{Relays}
use Rattle.ob_c.specs.declared.views.Counts.{Counts}
use Rattle.ob_c.specs.declared.views.Current.{Current}
use Rattle.ob_c.specs.declared.views.Front.{Front}
use Rattle.ob_c.specs.declared.views.Look.{Look}
use Rattle.ob_c.specs.declared.views.Promise.{Promise}
use Rattle.ob_c.specs.declared.views.Settings.{Settings as InForce}
use Rattle.ob_c.specs.declared.views.Truth.{Truth}

-- C is told what is so of what is behind a handle, if there is something, and nothing changes
abbrev pub Tells : {H A C : Type 0} → Option H → (H → A → Type 0) → (Option A → C) → C → Option H → Type 0
Tells handle is_so in_c told new =
    Relays handle (λ old value after. is_so old value × (after ≡ old)) in_c told new

-- no look, for this reason
abbrev pub no_look : ℕ → Look
no_look status = record {
  status = status;
  total = 0;
  word = 0;
  before_unwritable = 0;
  before_writable = 0;
  size = 0;
  current_progress = 0;
}

-- a look
abbrev pub look_in_c : Option LookReply → Look
look_in_c None = no_look not_open
look_in_c (Some look) = record {
  status = done;
  total = look.total;
  word = look.word;
  before_unwritable = look.before_unwritable;
  before_writable = look.before_writable;
  size = look.size;
  current_progress = look.current_progress;
}

-- a look of a shared connection, or why there is none
abbrev pub look_or_status : Result LookReply ℕ → Look
look_or_status (Err status) = no_look status
look_or_status (Ok look) = look_in_c (Some look)

-- whatever history the connection stands for, as many messages no flush has reached after it, and as many wait
abbrev pub AreCounted : Connected → ℕ × ℕ → Type 0
AreCounted connection counts =
    Gives connection unflushed_count_after counts.0 × Gives connection waiting_count_after counts.1

-- how many messages wait
abbrev pub counts_in_c : Option (ℕ × ℕ) → Counts
counts_in_c None = record { status = not_open; unflushed = 0; waiting = 0 }
counts_in_c (Some counts) = record { status = done; unflushed = counts.0; waiting = counts.1 }

-- whatever history the connection stands for, these marks are in force after it, and it was opened with this estimate
abbrev pub AreInForce : Connected → Marks × Estimate → Type 0
AreInForce connection settings =
    Gives connection marks_after settings.0 × (settings.1 ≡ connection.unsent.settings.estimate)

-- by what a connection goes
abbrev pub settings_in_c : Option (Marks × Estimate) → InForce
settings_in_c None = record { status = not_open; low = 0; high = 0; overhead = 0; unknown = 0 }
settings_in_c (Some settings) = record {
  status = done;
  low = settings.0.low;
  high = settings.0.high;
  overhead = settings.1.overhead;
  unknown = settings.1.unknown;
}

-- yes or no
abbrev pub truth_in_c : Option Bool → Truth
truth_in_c None = record { status = not_open; holds = false }
truth_in_c (Some answer) = record { status = done; holds = answer }

-- what has become of a promise: 0 nothing, 1 it waits, 2 it is fixed, 3 it is settled, 4 it was settled before
abbrev pub promise_in_c : Option (Option Status) → Promise
promise_in_c None = record { status = not_open; state = 0; outcome = 0; cause = 0 }
promise_in_c (Some None) = record { status = done; state = 0; outcome = 0; cause = 0 }
promise_in_c (Some (Some Waiting)) = record { status = done; state = 1; outcome = 0; cause = 0 }
promise_in_c (Some (Some Fixed)) = record { status = done; state = 2; outcome = 0; cause = 0 }
promise_in_c (Some (Some (Settled outcome))) =
    record { status = done; state = 3; outcome = outcome_number outcome; cause = cause_number outcome }
promise_in_c (Some (Some SettledBefore)) = record { status = done; state = 4; outcome = 0; cause = 0 }

-- the same of a shared connection, or why there is nothing to see
abbrev pub promise_or_status : Result (Option Status) ℕ → Promise
promise_or_status (Err status) = record { status = status; state = 0; outcome = 0; cause = 0 }
promise_or_status (Ok promise) = promise_in_c (Some promise)

-- the promise of the front, if there is one
abbrev pub front_in_c : Option (Option ℕ) → Front
front_in_c None = record { status = not_open; any = false; id = 0 }
front_in_c (Some None) = record { status = done; any = false; id = 0 }
front_in_c (Some (Some id)) = record { status = done; any = true; id = id }

-- a message less the progress that was told of it: a region is shorter by that, and any other is as it was
abbrev pub less_progress : ℕ → Message → Message
less_progress progress (Block bytes) = Block bytes
less_progress progress (Region size) = Region (size - progress)
less_progress progress (Other value) = Other value

-- what is left to send of the front after a history: its unread part, and of a region what its progress has not reached
abbrev pub left_after : Settings → List Command → Option Message
left_after settings commands =
    option_map (less_progress (look_after settings commands).current_progress) (current_after settings commands)

-- whatever history the connection stands for, this is what is left to send of the front after it
abbrev pub IsLeft : Connected → Option Message → Type 0
IsLeft connection message = Gives connection left_after message

-- what is left of the front: 0 nothing, 1 a block with its length, 2 a region with its length, 3 another with its
-- number
abbrev pub current_in_c : Option (Option Message) → Current
current_in_c None = record { status = not_open; kind = 0; number = 0 }
current_in_c (Some None) = record { status = done; kind = 0; number = 0 }
current_in_c (Some (Some (Block bytes))) = record { status = done; kind = 1; number = length bytes }
current_in_c (Some (Some (Region size))) = record { status = done; kind = 2; number = size }
current_in_c (Some (Some (Other value))) = record { status = done; kind = 3; number = value }

-- whatever history the connection stands for, C is told what is left to send of the front after it
abbrev pub ShowsLeft : Connected → Current → Type 0
ShowsLeft connection current =
    (message : Option Message) × IsLeft connection message × (current ≡ current_in_c (Some message))

-- the same of a shared connection, or why there is nothing to see
abbrev pub current_or_status : Result Current ℕ → Current
current_or_status (Err status) = record { status = status; kind = 0; number = 0 }
current_or_status (Ok current) = current
