-- When a peer is named as one that stalls. How often and for how long writers were stopped, and how often calls were
-- refused, each read off all that happened, and the numbers that a look shows.
use Rattle.std.specs.Prelude.{ℕ, ◌+◌, ◌-◌, Bool, true, false, not, ◌&&◌, List, [], ◌∷◌, ◌++◌, Option, Some, None}
use Rattle.std.specs.Prelude.{if◌then◌else◌, nat_le, max, min, ◌≡◌, ◌<◌, ◌≤◌, ⊤, sum_by, ◌==◌, count_by, filter_map}
use Rattle.std.specs.Prelude.{Result, Ok, Err}
use Rattle.ob_types.specs.Replies.{number_of, is_cancelled, is_failed, is_success}
use Rattle.ob_types.specs.Traits.{is_write}
use Rattle.ob_types.specs.declared.command.Command.{Command}
use Rattle.ob_types.specs.declared.command.Command.TheVariants.{Write, Flush, Remove, RemoveWith, RemoveBytes, Progress}
use Rattle.ob_types.specs.declared.command.Command.TheVariants.{Cancel, FailFlushed, Close, UserBit, SetMarks}
use Rattle.ob_types.specs.declared.refusal.Refusal.{Refusal}
use Rattle.ob_types.specs.declared.refusal.Refusal.TheVariants.{Oversize, TooMuch, Closed, NothingFlushed, TooFar}
use Rattle.ob_types.specs.declared.refusal.Refusal.TheVariants.{TooManyBytes, BadIndex, FlushedLeft, UnknownPromise}
use Rattle.ob_types.specs.declared.refusal.Refusal.TheVariants.{NoMemory}
use Rattle.ob_types.specs.declared.reply.Change.{Change}
use Rattle.ob_types.specs.declared.reply.Change.TheVariants.{Unwritable, Writable}
use Rattle.ob_seq.specs.State.{empty_after, writable_after}
use Rattle.ob_lifecycle.specs.Events.{most_told, Event, Accepted, Refused, Finishing, Ticked, Opened, clock_after}
use Rattle.ob_lifecycle.specs.Events.{commands_in, accepted_after, ended_after, peak_after, pending_after, plus, along}
use Rattle.ob_lifecycle.specs.declared.count.Count.{Count}
use Rattle.ob_lifecycle.specs.declared.fault.WriteFault.{WriteFault}
use Rattle.ob_lifecycle.specs.declared.fault.WriteFault.TheVariants.{Refused as Declined, Finishing as Ends, Full}
use Rattle.ob_lifecycle.specs.declared.limits.Limits.{Limits}
use Rattle.ob_lifecycle.specs.declared.numbers.Numbers.{Numbers}
use Rattle.ob_lifecycle.specs.declared.refusals.Refusals.{Refusals}
use Rattle.ob_lifecycle.specs.declared.strain.Strain.{Strain}
use Rattle.ob_lifecycle.specs.declared.watch.Watch.{Watch}

-- how many bytes the peer took by a command: those that were sent, and those of a region that were; and who tells that
-- the message in front was sent tells of enough
abbrev pub taken_of : ℕ → Command → ℕ
taken_of enough (Write message) = 0
taken_of enough Flush = 0
taken_of enough Remove = enough
taken_of enough (RemoveWith cause) = 0
taken_of enough (RemoveBytes n) = n
taken_of enough (Progress n) = n
taken_of enough (Cancel id) = 0
taken_of enough (FailFlushed cause notify) = 0
taken_of enough (Close cause) = 0
taken_of enough (UserBit index writable) = 0
taken_of enough (SetMarks marks) = 0

-- no window is open
abbrev pub rested : Watch → Watch
rested watch = record watch { since = None; taken = 0; named = false }

-- a window opens now
abbrev pub opened_now : Watch → Watch
opened_now watch = record watch { since = Some watch.now; taken = 0; named = false }

-- the time was told: one that is behind the last tells nothing
abbrev pub told_time : ℕ → Watch → Watch
told_time now watch = record watch { now = max watch.now now }

-- a window at a tick while something is flushed: it opens, opens anew if the peer took enough in it, or names the peer
-- if it is long enough
abbrev pub ticked : Limits → Option ℕ → Watch → Watch
ticked limits None watch = opened_now watch
ticked limits (Some since) watch =
    if nat_le limits.least_bytes watch.taken then opened_now watch
    else (if nat_le limits.window (watch.now - since) then record watch { named = true } else watch)

-- a window after an accepted command that leaves nothing flushed, or something
abbrev pub watched_by : ℕ → Command → Bool → Watch → Watch
watched_by enough command empty watch =
    if is_write command then watch
    else (if empty then rested watch else record watch { taken = min most_told (watch.taken + taken_of enough command) })

-- a window after one more event
abbrev pub watched : Opened → List Event → Event → Watch → Watch
watched opened earlier (Accepted command) watch =
    watched_by opened.limits.least_bytes command (empty_after opened.settings (commands_in (earlier ++ Accepted command ∷ []))) watch
watched opened earlier (Refused fault) watch = watch
watched opened earlier Finishing watch = watch
watched opened earlier (Ticked now) watch =
    if empty_after opened.settings (commands_in earlier) then rested (told_time now watch)
    else ticked opened.limits (told_time now watch).since (told_time now watch)

-- a window once these events came behind others
abbrev pub watched_from : Opened → List Event → Watch → List Event → Watch
watched_from opened earlier watch [] = watch
watched_from opened earlier watch (event ∷ events) =
    watched_from opened (earlier ++ event ∷ []) (watched opened earlier event watch) events

-- the window after events: none is open at first
abbrev pub watch_after : Opened → List Event → Watch
watch_after opened events =
    watched_from opened [] (record { now = opened.now; since = None; taken = 0; named = false }) events

-- whether the peer stands named, and has not taken enough since
abbrev pub is_named : Opened → List Event → Bool
is_named opened events = (watch_after opened events).named

-- whether a tick names the peer
abbrev pub names_by : ℕ → Opened → List Event → Bool
names_by now opened earlier = is_named opened (earlier ++ Ticked now ∷ []) && not (is_named opened earlier)

-- how many bytes the peer took by an event
abbrev pub taken_by : ℕ → Event → ℕ
taken_by enough (Accepted command) = taken_of enough command
taken_by enough (Refused fault) = 0
taken_by enough Finishing = 0
taken_by enough (Ticked now) = 0

-- of events behind others, each leaves something flushed
abbrev pub KeepFlushed : Opened → List Event → List Event → Type 0
KeepFlushed opened earlier [] = ⊤
KeepFlushed opened earlier (event ∷ events) =
    (empty_after opened.settings (commands_in (earlier ++ event ∷ [])) ≡ false)
    × KeepFlushed opened (earlier ++ event ∷ []) events

-- how many bytes the peer took by events
abbrev pub taken_in : ℕ → List Event → ℕ
taken_in enough events = sum_by (taken_by enough) events

-- the peer took nothing between two ticks at least a window apart, while something was flushed from the first on
pub record TookNothing (opened : Opened) (before : List Event) (first : ℕ) (between : List Event) (last : ℕ) : Type 0 where
  pub wanted : 0 < opened.limits.least_bytes
  pub flushed : KeepFlushed opened before (Ticked first ∷ between)
  pub nothing : taken_in opened.limits.least_bytes between ≡ 0
  pub apart : clock_after opened (before ++ Ticked first ∷ []) + opened.limits.window
      ≤ clock_after opened ((before ++ Ticked first ∷ between) ++ Ticked last ∷ [])

-- the peer took too little since a tick at least a window before this time, and something was flushed from that tick on
pub record TookLittle (opened : Opened) (earlier : List Event) (now : ℕ) : Type 0 where
  pub before : List Event
  pub first : ℕ
  pub between : List Event
  pub parts : earlier ≡ before ++ Ticked first ∷ between
  pub flushed : KeepFlushed opened before (Ticked first ∷ between)
  pub little : taken_in opened.limits.least_bytes between < opened.limits.least_bytes
  pub apart : clock_after opened (before ++ Ticked first ∷ []) + opened.limits.window
      ≤ clock_after opened (earlier ++ Ticked now ∷ [])

-- a number as it is told: 2^64 - 1 at most
abbrev pub as_told : ℕ → ℕ
as_told n = min most_told n

-- whether writers may go on after events
abbrev pub may_go_on : Opened → List Event → Bool
may_go_on opened events = writable_after opened.settings (commands_in events)

-- whether an event stops writers: they might go on before it, and may not after it
abbrev pub stops_by : Opened → List Event → Event → Bool
stops_by opened earlier event = may_go_on opened earlier && not (may_go_on opened (earlier ++ event ∷ []))

-- how often writers were stopped
abbrev pub stops_after : Opened → List Event → ℕ
stops_after opened events = as_told (count_by (λ stops. stops) (along (stops_by opened) events))

-- the time that an event lets pass while writers are stopped: none passes between two ticks
abbrev pub stopped_by : Opened → List Event → Event → ℕ
stopped_by opened earlier event =
    if may_go_on opened earlier then 0 else clock_after opened (earlier ++ event ∷ []) - clock_after opened earlier

-- for how long writers were stopped, all together
abbrev pub stopped_after : Opened → List Event → ℕ
stopped_after opened events = sum_by (λ time. time) (along (stopped_by opened) events)

-- why a call was refused, if this says so
abbrev pub fault_of : Event → Option WriteFault
fault_of (Accepted command) = None
fault_of (Refused fault) = Some fault
fault_of Finishing = None
fault_of (Ticked now) = None

-- whether a fault is this refusal of the connection
abbrev pub is_for : Refusal → WriteFault → Bool
is_for refusal (Declined other) = number_of other == number_of refusal
is_for refusal Ends = false
is_for refusal Full = false

-- whether a fault is that the end was asked for
abbrev pub is_for_the_end : WriteFault → Bool
is_for_the_end (Declined refusal) = false
is_for_the_end Ends = true
is_for_the_end Full = false

-- whether a fault is that the cap would be passed
abbrev pub is_for_the_cap : WriteFault → Bool
is_for_the_cap (Declined refusal) = false
is_for_the_cap Ends = false
is_for_the_cap Full = true

-- how often a call was refused for such a reason
abbrev pub times : (WriteFault → Bool) → List Event → ℕ
times such events = as_told (count_by such (filter_map fault_of events))

-- how often calls were refused, by the reason
abbrev pub refusals_after : List Event → Refusals
refusals_after events = record {
  closed = times (is_for Closed) events;
  finishing = times is_for_the_end events;
  oversize = times (is_for Oversize) events;
  full = times is_for_the_cap events;
  too_much = times (is_for TooMuch) events;
  no_memory = times (is_for NoMemory) events;
  nothing_flushed = times (is_for NothingFlushed) events;
  too_far = times (is_for TooFar) events;
  too_many_bytes = times (is_for TooManyBytes) events;
  bad_index = times (is_for BadIndex) events;
  flushed_left = times (is_for FlushedLeft) events;
  unknown_promise = times (is_for UnknownPromise) events;
}

-- what is kept of all this
abbrev pub strain_after : Opened → List Event → Strain
strain_after opened events = record {
  stops = stops_after opened events;
  stopped = stopped_after opened events;
  refusals = refusals_after events;
}

-- one more of a number as it is told, if there is
abbrev pub more_if : Bool → ℕ → ℕ
more_if more n = if more then as_told (n + 1) else n

-- the refusals, and one more for this reason
abbrev pub refused_more : WriteFault → Refusals → Refusals
refused_more fault refusals = record {
  closed = more_if (is_for Closed fault) refusals.closed;
  finishing = more_if (is_for_the_end fault) refusals.finishing;
  oversize = more_if (is_for Oversize fault) refusals.oversize;
  full = more_if (is_for_the_cap fault) refusals.full;
  too_much = more_if (is_for TooMuch fault) refusals.too_much;
  no_memory = more_if (is_for NoMemory fault) refusals.no_memory;
  nothing_flushed = more_if (is_for NothingFlushed fault) refusals.nothing_flushed;
  too_far = more_if (is_for TooFar fault) refusals.too_far;
  too_many_bytes = more_if (is_for TooManyBytes fault) refusals.too_many_bytes;
  bad_index = more_if (is_for BadIndex fault) refusals.bad_index;
  flushed_left = more_if (is_for FlushedLeft fault) refusals.flushed_left;
  unknown_promise = more_if (is_for UnknownPromise fault) refusals.unknown_promise;
}

-- whether a change is that writers are stopped
abbrev pub is_stop : Option Change → Bool
is_stop None = false
is_stop (Some Unwritable) = true
is_stop (Some Writable) = false

-- the change of writability that a result reports, or why there is none
abbrev pub change_in : {A E : Type 0} → (A → Option Change) → (E → WriteFault) → Result A E → Result (Option Change) WriteFault
change_in change why (Ok value) = Ok (change value)
change_in change why (Err refused) = Err (why refused)

-- what a call makes of it that reports this
abbrev pub strained : Result (Option Change) WriteFault → Strain → Strain
strained (Ok change) strain = record strain { stops = more_if (is_stop change) strain.stops }
strained (Err fault) strain = record strain { refusals = refused_more fault strain.refusals }

-- the numbers after events
abbrev pub numbers_after : Opened → List Event → Numbers
numbers_after opened events = record {
  accepted = accepted_after opened events;
  sent = ended_after is_success opened events;
  failed = ended_after is_failed opened events;
  cancelled = ended_after is_cancelled opened events;
  pending = pending_after opened.settings (commands_in events);
  peak = peak_after opened events;
  stops = stops_after opened events;
  stopped = stopped_after opened events;
  refusals = refusals_after events;
}

-- what was sent, failed, was cancelled and is pending, together
abbrev pub all_told : Numbers → Count
all_told numbers = plus (plus (plus numbers.sent numbers.failed) numbers.cancelled) numbers.pending
