-- What contracts see of a handle, and of what lies under the lock: the list of accepted calls, which of them take
-- flushed messages away, which share of a connection a handle has, and how a seat of a budget covers what is pending.
-- What is read without the lock, and what a handle waits for.
use Rattle.std.specs.Box.{box_value}
use Rattle.std.specs.List.{AllPass, list_all, sum_by}
use Rattle.std.specs.Prelude.{◌≡◌, ◌==◌, ℕ, List, [], ◌∷◌, ◌++◌, map, if◌then◌else◌, Bool, true, false, ◌||◌, ◌+◌, ◌-◌}
use Rattle.std.specs.Prelude.{◌^◌, ◌≤◌, ◌<◌, ◌*◌, ⊤, Option, Some, None, option_map}
use Rattle.atomic_table.specs.Seated.{TableId}
use Rattle.ob_types.specs.Marks.{packed}
use Rattle.ob_types.specs.PendingSize.{counted_bytes, is_long_region}
use Rattle.ob_types.specs.Traits.{traits_of}
use Rattle.ob_types.specs.declared.command.Command.{Command}
use Rattle.ob_types.specs.declared.command.Command.TheVariants.{Write, Flush, Remove, RemoveWith, RemoveBytes, Progress}
use Rattle.ob_types.specs.declared.command.Command.TheVariants.{Cancel, FailFlushed, Close, UserBit, SetMarks}
use Rattle.ob_types.specs.declared.estimate.Estimate.{Estimate}
use Rattle.ob_types.specs.declared.message.Message.{Message}
use Rattle.ob_seq.specs.Effect.{rows_after}
use Rattle.ob_seq.specs.Rows.{Settings, total}
use Rattle.ob_seq.specs.State.{word_after, closed_after, empty_after, writable_after}
use Rattle.ob_connection.specs.Connected.{Connected, StandsFor, connection_accepts_all}
use Rattle.ob_connection.specs.Obeying.{Accepts}
use Rattle.ob_budget.specs.Account.{BudgetValue}
use Rattle.ob_budget.specs.declared.fault.RaiseFault.{RaiseFault}
use Rattle.ob_budget.specs.declared.pressure.Pressure.{Pressure}
use Rattle.ob_covered.specs.Budgeted.{IsPending, IsWithin}
use Rattle.ob_covered.specs.Cover.{CoverValue, HoldsAtMost, IsShort, TakesSparingly, Tells}
use Rattle.ob_shared_connection.specs.declared.bell.Waiter.{Waiter}
use Rattle.ob_shared_connection.specs.declared.bell.Waiter.TheVariants.{Writer, Sender}
use Rattle.ob_shared_connection.specs.declared.call.Call.{Call}
use Rattle.ob_shared_connection.specs.declared.carried.Carried.{Carried}
use Rattle.ob_shared_connection.specs.declared.glance.Glance.{Glance}
use Rattle.ob_shared_connection.specs.declared.moment.Moment.{Moment}
use Rattle.ob_shared_connection.specs.declared.moment.Moment.TheVariants.{Ready, Closed, NotYet}

-- what was asked, in order
abbrev pub commands_of : List Call → List Command
commands_of log = map (λ call. call.command) log

-- what one handle asked, in order
abbrev pub commands_by : ℕ → List Call → List Command
commands_by caller [] = []
commands_by caller (call ∷ log) =
    if call.caller == caller then call.command ∷ commands_by caller log else commands_by caller log

-- the calls that one handle makes with these commands
abbrev pub calls_of : ℕ → List Command → List Call
calls_of caller commands = map (λ command. record { caller = caller; command = command }) commands

-- calls are a beginning of others if some calls behind them make those
pub record IsBeginning (first all : List Call) : Type 0 where
  pub rest : List Call
  pub whole : first ++ rest ≡ all

-- whether a command takes no flushed message away, and no byte of one: a close takes what no flush has reached
abbrev pub leaves_flushed : Command → Bool
leaves_flushed (Write message) = true
leaves_flushed Flush = true
leaves_flushed Remove = false
leaves_flushed (RemoveWith cause) = false
leaves_flushed (RemoveBytes n) = false
leaves_flushed (Progress n) = true
leaves_flushed (Cancel id) = true
leaves_flushed (FailFlushed cause notify) = false
leaves_flushed (Close cause) = true
leaves_flushed (UserBit index writable) = true
leaves_flushed (SetMarks marks) = true

-- none of these calls takes flushed messages away
abbrev pub NoneRemoves : List Call → Type 0
NoneRemoves log = AllPass (λ call. leaves_flushed call.command) log

-- these commands may come from a handle if none of them takes flushed messages away, or it is the one that sends
abbrev pub MayGive : Bool → List Command → Type 0
MayGive sends commands = (list_all leaves_flushed commands || sends) ≡ true

-- what is left of a share of which another handle got the other half: each of its parts is halved once more
abbrev pub halves : List ℕ → List ℕ
halves share = map (λ halved. halved + 1) share

-- how many parts a share has, if the whole has 2 ^ fine: each of its own was halved as often as it says
abbrev pub parts_in : ℕ → List ℕ → ℕ
parts_in fine share = sum_by (λ halved. 2 ^ (fine - halved)) share

-- how often its parts were halved, together
abbrev pub halvings : List ℕ → ℕ
halvings share = sum_by (λ halved. halved) share

-- a share is the whole: its parts are together as many as that has
abbrev pub IsWhole : List ℕ → Type 0
IsWhole share = parts_in (halvings share) share ≡ 2 ^ halvings share

-- the cover that lies beside a connection
abbrev pub cover_of : Carried → Option CoverValue
cover_of carried = option_map (λ cover. box_value cover) carried.cover

-- the budget that a connection was opened within, if one
abbrev pub Within : Type 0
Within = Option BudgetValue

-- the budget that a cover is of
abbrev pub budget_of : Option CoverValue → Within
budget_of cover = option_map (λ held. held.seat.budget) cover

-- the bytes that its seat holds
abbrev pub held_by : Option CoverValue → Option ℕ
held_by cover = option_map (λ held. held.seat.account.held) cover

-- what is pending of a connection is at most what the seat holds that covers it, if one does
abbrev pub IsUnder : Connected → Option CoverValue → Type 0
IsUnder connected None = ⊤
IsUnder connected (Some cover) = IsWithin connected cover.seat.account.held

-- a connection that was opened within a budget has a seat of it, which holds at least what is pending; any other has
-- none
pub record IsCovered (budget : Within) (connected : Connected) (cover : Option CoverValue) : Type 0 where
  pub budget_is : budget_of cover ≡ budget
  pub under : IsUnder connected cover

-- the bytes that a message counts, if there is one
abbrev pub counted_if : Estimate → Option Message → ℕ
counted_if estimate None = 0
counted_if estimate (Some message) = counted_bytes estimate message

-- the bytes that the messages count that these commands write
abbrev pub bytes_written : Estimate → List Command → ℕ
bytes_written estimate [] = 0
bytes_written estimate (command ∷ commands) =
    counted_if estimate (traits_of command).message + bytes_written estimate commands

-- with what these commands write no more is pending than this, if no more was before
abbrev pub FitsIn : Connected → List Command → ℕ → Type 0
FitsIn connected commands room =
    (before : ℕ) → IsPending connected before → before ≤ room
    → before + bytes_written connected.unsent.settings.estimate commands ≤ room

-- a message counts as many bytes as a block of this many, and is no region that is too long
pub record CountsAs (connected : Connected) (n : ℕ) (message : Message) : Type 0 where
  pub counts : counted_bytes connected.unsent.settings.estimate message ≡ n + connected.unsent.settings.estimate.overhead
  pub short : is_long_region message ≡ false

-- the first of these commands is accepted
abbrev pub AcceptsFirst : Connected → List Command → Type 0
AcceptsFirst connected [] = ⊤
AcceptsFirst connected (command ∷ commands) = Accepts connected command

-- these bytes and those that are pending of the connection are more than the room
pub record Passes (connected : Connected) (bytes room : ℕ) : Type 0 where
  pub now : ℕ
  pub is_pending : IsPending connected now
  pub more : room < now + bytes

-- the connection has this room, and would accept these commands, but what they write passes it
pub record PassesRoom (connected : Connected) (commands : List Command) (room : Option ℕ) : Type 0 where
  pub accepted : AcceptsFirst connected commands
  pub bytes : ℕ
  pub room_is : room ≡ Some bytes
  pub passes : Passes connected (bytes_written connected.unsent.settings.estimate commands) bytes

-- bytes that are to be covered before commands are made: what they write, if the first of them is accepted, and else
-- none
pub record Adds (connected : Connected) (commands : List Command) (bytes : ℕ) : Type 0 where
  pub small : bytes < 4294967296
  pub written : AcceptsFirst connected commands → bytes ≡ bytes_written connected.unsent.settings.estimate commands
  pub accepted : 0 < bytes → AcceptsFirst connected commands

-- the seat of a cover, if there is one, has told just of this turn of pressure
abbrev pub TellsIf : Option CoverValue → Option Pressure → Option CoverValue → Type 0
TellsIf None told None = told ≡ None
TellsIf None told (Some new) = ⊥
TellsIf (Some old) told None = ⊥
TellsIf (Some old) told (Some new) = Tells old told new

-- a seat covers the connection, and does not hold these bytes beside what is pending; a raise by what it lacks was
-- refused
pub record LacksRoom (connected : Connected) (old : Option CoverValue) (bytes : ℕ) (fault : RaiseFault)
    (new : Option CoverValue) : Type 0 where
  pub before : CoverValue
  pub after : CoverValue
  pub was : old ≡ Some before
  pub is : new ≡ Some after
  pub now : ℕ
  pub is_pending : IsPending connected now
  pub short : IsShort (now + bytes) fault before after

-- unless the call lost too many exchanges to others, the seat of a cover, if there is one, holds at most so many quanta
-- beside what is pending of the connection
abbrev pub SparesAtMost : ℕ → Connected → Option CoverValue → Option CoverValue → Type 0
SparesAtMost quanta connected None new = ⊤
SparesAtMost quanta connected (Some old) None = ⊥
SparesAtMost quanta connected (Some old) (Some new) =
    (now : ℕ) → IsPending connected now → HoldsAtMost (now + quanta * new.quantum) old new

-- the seat of a cover, if there is one, holds these bytes beside what is pending of the connection
abbrev pub HoldsFor : Connected → ℕ → Option CoverValue → Type 0
HoldsFor connected bytes None = ⊤
HoldsFor connected bytes (Some cover) = (now : ℕ) → IsPending connected now → now + bytes ≤ cover.seat.account.held

-- for these bytes beside what was pending of the connection the seat of a cover, if there is one, took no more than it
-- lacked and a quantum, and nothing if it held them already
abbrev pub TakesFor : Connected → ℕ → Option CoverValue → Option CoverValue → Type 0
TakesFor connected bytes None new = ⊤
TakesFor connected bytes (Some old) None = ⊥
TakesFor connected bytes (Some old) (Some new) =
    (now : ℕ) → IsPending connected now → TakesSparingly (now + bytes) old new

-- a handle: which connection it is of, what that was opened with, and within which budget, if one; its number; whether
-- it is the one that takes messages away; what was accepted from it, in order; the accepted calls that it has seen; how
-- many other handles it took in, with the number of calls that were accepted from those; and its share of the
-- connection
pub record HandleValue : Type 0 where
  pub connection : TableId
  pub settings : Settings
  pub budget : Within
  pub caller : ℕ
  pub sends : Bool
  pub mine : List Command
  pub seen : List Call
  pub others : ℕ
  pub handed : ℕ
  pub share : List ℕ

-- what lies under the lock, the connection and the cover of what is pending, if it is within a budget; and the handle
-- that has it: what it has seen are all accepted calls
pub record Held : Type 0 where
  pub connected : Connected
  pub cover : Option CoverValue
  pub handle : HandleValue

-- a connection is as it was opened, and what these calls leave
pub record IsLeftBy (settings : Settings) (log : List Call) (connected : Connected) : Type 0 where
  pub settings_are : connected.unsent.settings ≡ settings
  pub stands : StandsFor connected (commands_of log)

-- what lies under the lock is what all calls leave that its handle has seen
abbrev pub IsLeft : Held → Type 0
IsLeft held = IsLeftBy held.handle.settings held.handle.seen held.connected

-- the handle once these commands were accepted from it
abbrev pub handle_with : List Command → HandleValue → HandleValue
handle_with commands handle = record handle {
  mine = handle.mine ++ commands;
  seen = handle.seen ++ calls_of handle.caller commands;
}

-- what lies under the lock, once the handle that has it is the one that sends
abbrev pub appointed : Held → Held
appointed held = record held { handle = record held.handle { sends = true } }

-- the handle once it does not send any more
abbrev pub resigned : HandleValue → HandleValue
resigned handle = record handle { sends = false }

-- the handle once another got half of its share
abbrev pub sharing : HandleValue → HandleValue
sharing handle = record handle { share = halves handle.share }

-- what lies under the lock, once the cover is this
abbrev pub recovered : Option CoverValue → Held → Held
recovered cover held = record held { cover = cover }

-- a connection accepts these calls, one after another
abbrev pub IsLegal : Settings → List Call → Type 0
IsLegal settings log = connection_accepts_all settings (commands_of log) ≡ true

-- the glance after calls: the word, and the pending bytes
abbrev pub glance_after : Settings → List Call → Glance
glance_after settings log = record {
  word = word_after settings (commands_of log);
  total = total (rows_after settings.estimate (commands_of log));
}

-- a glance in the one number that is published
abbrev pub packed_glance : Glance → ℕ
packed_glance glance = packed glance.word glance.total

-- a glance of a handle is that after the calls that it has seen then: accepted calls, which begin with all that it had
-- seen; its own are among them, and what came between is of other handles, of which none took flushed messages away if
-- this handle is the one that sends
pub record IsGlance (old : HandleValue) (glance : Glance) (new : HandleValue) : Type 0 where
  pub between : List Call
  pub sees : new ≡ record old { seen = old.seen ++ between }
  pub shows : glance ≡ glance_after old.settings new.seen
  pub legal : IsLegal old.settings new.seen
  pub own : old.mine ≡ commands_by old.caller new.seen
  pub others : commands_by old.caller between ≡ []
  pub untouched : old.sends ≡ true → NoneRemoves between

-- what a writer and the transport find after a history: a writer may go on if the connection is writable and open, the
-- transport if a flushed message is there
abbrev pub moment_after : Waiter → Settings → List Command → Moment
moment_after Writer settings commands =
    if closed_after settings commands then Closed else if writable_after settings commands then Ready else NotYet
moment_after Sender settings commands =
    if empty_after settings commands then (if closed_after settings commands then Closed else NotYet) else Ready

-- whether a wait is over, other than by its time
abbrev pub is_due : Moment → Bool
is_due Ready = true
is_due Closed = true
is_due NotYet = false

-- under the lock this is what one finds who waits
abbrev pub IsMoment : Waiter → Held → Moment → Type 0
IsMoment waiter held moment = moment ≡ moment_after waiter held.handle.settings (commands_of held.handle.seen)

-- one waited until the moment came, found it under the lock, and changed nothing
pub record Waited (waiter : Waiter) (moment : Moment) (before after : Held) : Type 0 where
  pub finds : IsMoment waiter before moment
  pub same : after ≡ before
