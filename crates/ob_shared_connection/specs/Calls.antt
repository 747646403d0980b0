-- What a handle is told at the lock, and what a call promises: how handles begin and end, what an act leaves of a
-- connection, and what a look under the lock shows. What a call promises of a connection within a budget, and what all
-- connections of a budget hold together.
use Rattle.std.specs.List.{All, sum_by}
use Rattle.std.specs.Prelude.{◌≡◌, ◌≢◌, true, false, None, List, [], ◌∷◌, ◌++◌, Result, Ok, Err, IfErr, IfOk, IsErrOf}
use Rattle.std.specs.Prelude.{OnErr, OnOk, is_err, ◌≤◌, ◌+◌, length, ℕ, Option, Some, IsOk, ◌<◌, ◌⊎◌, map}
use Rattle.ob_types.specs.declared.command.Command.{Command}
use Rattle.ob_types.specs.declared.command.Command.TheVariants.{Close, FailFlushed, Flush, Write}
use Rattle.ob_types.specs.declared.message.Message.{Message}
use Rattle.ob_types.specs.declared.promise.Cause.{Cause}
use Rattle.ob_types.specs.declared.promise.Outcome.{Outcome}
use Rattle.ob_types.specs.declared.promise.PromiseState.{PromiseState}
use Rattle.ob_types.specs.declared.refusal.Refusal.{Refusal}
use Rattle.ob_types.specs.declared.refusal.Refusal.TheVariants.{Closed, NoMemory}
use Rattle.ob_types.specs.declared.reply.Reply.{Reply}
use Rattle.ob_seq.specs.Looks.{gathered_after}
use Rattle.ob_seq.specs.Rows.{Settings}
use Rattle.ob_seq.specs.State.{closed_after}
use Rattle.ob_connection.specs.Connected.{Connected, Gives, StandsFor, AreGathered, Refuses}
use Rattle.ob_connection.specs.Obeying.{GivesUp, IsNext, IsQuiet, Obeys, flushed_reply, taken_reply, written_reply}
use Rattle.ob_connection.specs.declared.replies.Flushed.{Flushed}
use Rattle.ob_connection.specs.declared.replies.Taken.{Taken}
use Rattle.ob_connection.specs.declared.replies.Written.{Written}
use Rattle.ob_budget.specs.Bounds.{BoundsValue}
use Rattle.ob_budget.specs.Ruled.{Keeps}
use Rattle.ob_budget.specs.declared.account.Account.{Account}
use Rattle.ob_budget.specs.declared.pressure.Pressure.{Pressure}
use Rattle.ob_covered.specs.Budgeted.{pending}
use Rattle.ob_covered.specs.declared.fault.Told.{Told}
use Rattle.ob_shared_connection.specs.Values.{IsCovered, PassesRoom, Within, held_by, commands_by, IsBeginning}
use Rattle.ob_shared_connection.specs.Values.{NoneRemoves, IsWhole, halves, HandleValue, Held, IsLeft, handle_with}
use Rattle.ob_shared_connection.specs.Values.{IsLeftBy, AcceptsFirst, HoldsFor, LacksRoom, SparesAtMost, TakesFor}
use Rattle.ob_shared_connection.specs.Values.{TellsIf, bytes_written, commands_of, recovered}
use Rattle.ob_shared_connection.specs.declared.call.Call.{Call}
use Rattle.ob_shared_connection.specs.declared.ended.Ended.{Ended}
use Rattle.ob_shared_connection.specs.declared.not_written.NotWritten.{NotWritten}
use Rattle.ob_shared_connection.specs.declared.not_written.WriteFault.{WriteFault}
use Rattle.ob_shared_connection.specs.declared.not_written.WriteFault.TheVariants.{Refused, Uncovered}
use Rattle.ob_shared_connection.specs.declared.over.OverBudget.{OverBudget}
use Rattle.ob_shared_connection.specs.declared.written.WrittenAndFlushed.{WrittenAndFlushed}

-- a handle that takes the lock sees all accepted calls, and the connection is what they leave: what it had seen begins
-- them, its own are just those that were accepted from it, in order, and what came between is of other handles; of that
-- nothing took flushed messages away if this handle is the one that sends; what is pending is covered
pub record IsLock (old : HandleValue) (new : Held) : Type 0 where
  pub between : List Call
  pub sees : new.handle ≡ record old { seen = old.seen ++ between }
  pub own : old.mine ≡ commands_by old.caller new.handle.seen
  pub others : commands_by old.caller between ≡ []
  pub untouched : old.sends ≡ true → NoneRemoves between
  pub left : IsLeft new
  pub covered : IsCovered new.handle.budget new.connected new.cover

-- a call under the lock does this to the connection; if it is accepted, the list has its commands behind all others, and
-- else nothing changed; the cover is as it was, and covers what is pending. A fault that says that it was not covered is
-- right: the seat lacks what it writes
pub record IsCall {A E : Type 0} (Uncovered : E → Type 0) (Does : Connected → Result A E → Connected → Type 0)
    (commands : List Command) (old : Held) (result : Result A E) (new : Held) : Type 0 where
  pub does : Does old.connected result new.connected
  pub listed : OnOk result (new.handle ≡ handle_with commands old.handle)
  pub refused : OnErr result (new ≡ old)
  pub left : IsLeft new
  pub kept : new.cover ≡ old.cover
  pub covered : IsCovered new.handle.budget new.connected new.cover
  pub lacks : IfErr result (λ fault. Uncovered fault → PassesRoom old.connected commands (held_by old.cover))

-- a call that writes nothing is never refused since its seat does not cover it
abbrev pub AlwaysCovered : {E : Type 0} → E → Type 0
AlwaysCovered fault = ⊥

-- a write was refused since its seat does not cover it
abbrev pub IsUncovered : WriteFault → Type 0
IsUncovered why = why ≡ Uncovered

-- and its message came back
abbrev pub ComesBackUncovered : NotWritten → Type 0
ComesBackUncovered refused = refused.why ≡ Uncovered

-- a call of one command
abbrev pub Makes : {A : Type 0} → (Command → Connected → Result A Refusal → Connected → Type 0) → Command
    → Result A Refusal → Held → Held → Type 0
Makes Does command result old new = IsCall AlwaysCovered (Does command) (command ∷ []) old result new

-- between an old handle and a new one it took the lock once, this was done under it, and it let the lock go
pub record UnderLock (old : HandleValue) (Does : Held → Held → Type 0) (new : HandleValue) : Type 0 where
  pub before : Held
  pub after : Held
  pub locks : IsLock old before
  pub does : Does before after
  pub unlocks : new ≡ after.handle

-- why a write was refused, in the words of the sequential connection: to one that its seat does not cover nothing more
-- is there than to one that is out of memory
abbrev pub refusal_of : WriteFault → Refusal
refusal_of (Refused refusal) = refusal
refusal_of Uncovered = NoMemory

-- what a write answers, in those words
abbrev pub answer_of_put : Result Written WriteFault → Result Written Refusal
answer_of_put (Ok written) = Ok written
answer_of_put (Err why) = Err (refusal_of why)

abbrev pub answer_of_write : Result Written NotWritten → Result Written Refusal
answer_of_write (Ok written) = Ok written
answer_of_write (Err refused) = Err (refusal_of refused.why)

-- it writes a message, as the sequential connection does, may run out of memory, or of what its seat holds, and gives a
-- message back that it refuses
pub record Writing (message : Message) (old : Connected) (result : Result Written NotWritten) (new : Connected)
    : Type 0 where
  pub obeys : Obeys old (Write message) written_reply (answer_of_write result) new
  pub returned : IfErr result (λ refused. refused.message ≡ message)

-- a call that writes a message
abbrev pub Writes : Message → Result Written NotWritten → Held → Held → Type 0
Writes message result old new = IsCall ComesBackUncovered (Writing message) (Write message ∷ []) old result new

-- it writes a message, as the sequential connection does, may run out of memory, or of what its seat holds, and lets a
-- message go that it refuses
abbrev pub Putting : Message → Connected → Result Written WriteFault → Connected → Type 0
Putting message old result new = Obeys old (Write message) written_reply (answer_of_put result) new

-- a call that writes a message, which is gone if it is refused
abbrev pub Puts : Message → Result Written WriteFault → Held → Held → Type 0
Puts message result old new = IsCall IsUncovered (Putting message) (Write message ∷ []) old result new

-- it obeys the command, and never runs out of memory
pub record ObeyingFreely {A : Type 0} (tell : List PromiseState → A → Reply) (command : Command) (old : Connected)
    (result : Result A Refusal) (new : Connected) : Type 0 where
  pub obeys : Obeys old command tell result new
  pub frugal : ¬ IsErrOf result NoMemory

-- a write was refused for the reason that its seat did not cover it only if the connection is within a budget
abbrev pub IsUncoveredOnlyWithin : WriteFault → Within → Type 0
IsUncoveredOnlyWithin why budget = budget ≡ None → why ≢ Uncovered

-- a flush that was accepted
abbrev pub Flushing : Connected → Flushed → Connected → Type 0
Flushing old flushed new =
    let result : Result Flushed Refusal = Ok flushed in ObeyingFreely flushed_reply Flush old result new

-- a write does this, and if it is accepted, what was written so far is flushed right behind it, which is accepted too; if
-- it is refused, nothing is flushed
abbrev pub ThenFlushes : {E : Type 0} → (Connected → Result Written E → Connected → Type 0) → Connected
    → Result WrittenAndFlushed E → Connected → Type 0
ThenFlushes Writes old (Ok done) new =
    (between : Connected) × Writes old (Ok done.written) between × Flushing between done.flushed new
ThenFlushes Writes old (Err refused) new = Writes old (Err refused) new

-- a call that writes a message and flushes
abbrev pub WritesAndFlushes : Message → Result WrittenAndFlushed NotWritten → Held → Held → Type 0
WritesAndFlushes message result old new =
    IsCall ComesBackUncovered (ThenFlushes (Writing message)) (Write message ∷ Flush ∷ []) old result new

-- the same, if the message is gone when it is refused
abbrev pub PutsAndFlushes : Message → Result WrittenAndFlushed WriteFault → Held → Held → Type 0
PutsAndFlushes message result old new = IsCall IsUncovered (ThenFlushes (Putting message)) (Write message ∷ Flush ∷ []) old result new

-- it obeys the command, never runs out of memory, and what it took away goes on where those end that were gone before,
-- with this outcome
pub record Taking (outcome : Outcome) (command : Command) (old : Connected) (result : Result Taken Refusal)
    (new : Connected) : Type 0 where
  pub obeys : Obeys old command taken_reply result new
  pub frugal : ¬ IsErrOf result NoMemory
  pub next : IsNext old outcome result new

-- and reports no change of writability if this is so
pub record TakingQuietly (outcome : Outcome) (quiet : Type 0) (command : Command) (old : Connected)
    (result : Result Taken Refusal) (new : Connected) : Type 0 where
  pub takes : Taking outcome command old result new
  pub quiet_then : quiet → IsQuiet result

-- it gives the connection up, unless that is closed
pub record GivingUp (cause : Cause) (old : Connected) (result : Result Taken Refusal) (new : Connected) : Type 0 where
  pub gives_up : IfOk result (λ taken. GivesUp old cause taken new)
  pub is_open : Gives old closed_after (is_err result)
  pub refused : OnErr result (new ≡ old)
  pub closed_only : IfErr result (λ refusal. refusal ≡ Closed)

-- the commands of giving up
abbrev pub giving_up : Cause → List Command
giving_up cause = FailFlushed cause false ∷ Close cause ∷ []

-- the first handle of a connection that was opened with these settings: it is the one that sends, no call was made, and
-- its share is the whole
pub record IsFirst (settings : Settings) (handle : HandleValue) : Type 0 where
  pub settings_are : handle.settings ≡ settings
  pub sends_first : handle.sends ≡ true
  pub none_made : handle.mine ≡ []
  pub none_seen : handle.seen ≡ []
  pub none_joined : (handle.others ≡ 0) × (handle.handed ≡ 0)
  pub whole : handle.share ≡ 0 ∷ []

-- another handle of the same connection: it has a number of its own, does not send, has made no call, has seen what the
-- old one has, and gets half of its share
abbrev pub IsAnother : HandleValue → HandleValue → Type 0
IsAnother old other =
    other
    ≡ record old { caller = other.caller; sends = false; mine = []; others = 0; handed = 0; share = halves old.share }

-- a handle of which perhaps another one was to get half of the share, and else nothing changed
abbrev pub IsButForShare : HandleValue → HandleValue → Type 0
IsButForShare old new = new ≡ record old { share = new.share }

-- a handle took another one in: it stands for both, has the shares of both, and has seen what both had
pub record IsJoined (old other new : HandleValue) : Type 0 where
  pub between : List Call
  pub joins : new ≡ record old {
    seen = old.seen ++ between;
    others = old.others + (1 + other.others);
    handed = old.handed + (length other.mine + other.handed);
    share = old.share ++ other.share;
  }
  pub part : IsBeginning other.seen new.seen

-- the end of a connection: of the list of all calls the handle had seen a beginning, and its own are those of its
-- number in it; if it is told that nobody had the lock, the connection is what the calls leave, under its cover; at
-- least as many handles are told as this one stands for, and if they are as many, there are as many calls as were
-- accepted from those; and if its share is the whole, just those are told, and that nobody had the lock
pub record IsEnd (handle : HandleValue) (ended : Ended) : Type 0 where
  pub log : List Call
  pub part : IsBeginning handle.seen log
  pub own : handle.mine ≡ commands_by handle.caller log
  pub left : ended.is_left ≡ true → IsLeftBy handle.settings log ended.connection
  pub covered : ended.is_left ≡ true → IsCovered handle.budget ended.connection ended.cover
  pub few : 1 + handle.others ≤ ended.handles
  pub counted : ended.handles ≡ 1 + handle.others → length log ≡ length handle.mine + handle.handed
  pub all : IsWhole handle.share → (ended.handles ≡ 1 + handle.others) × (ended.is_left ≡ true)

-- whatever history the old connection stands for, the new one stands for it with these commands, and is opened as it was
pub record Continues (old : Connected) (commands : List Command) (new : Connected) : Type 0 where
  pub settings : new.unsent.settings ≡ old.unsent.settings
  pub stands : (history : List Command) → StandsFor old history → StandsFor new (history ++ commands)

-- a connection that stands for some history, in which it was not closed
pub record IsOpen (connection : Connected) : Type 0 where
  pub history : List Command
  pub stands : StandsFor connection history
  pub unclosed : closed_after connection.unsent.settings history ≡ false

-- a look shows this of the connection, and nothing changes
pub record IsLook {A : Type 0} (ShowsOf : Connected → A → Type 0) (answer : A) (old new : Held) : Type 0 where
  pub shows : ShowsOf old.connected answer
  pub same : new ≡ old

-- the first refusal of a command, for which no memory is wanted
pub record RefusesFreely (connected : Connected) (command : Command) (refusal : Option Refusal) : Type 0 where
  pub first : Refuses connected command refusal
  pub other : ¬ (refusal ≡ Some NoMemory)

-- blocks that are gathered, unless memory is wanted for them
pub record Gathers {A : Type 0} (blocks_of : A → List (List ℕ)) (max_count max_bytes : ℕ) (connected : Connected)
    (result : Result A Refusal) : Type 0 where
  pub gathered : IfOk result (λ blocks. AreGathered connected max_count max_bytes (blocks_of blocks))
  pub no_memory : IfErr result (λ refusal. refusal ≡ NoMemory)
  pub frugal : (commands : List Command) → StandsFor connected commands
      → gathered_after connected.unsent.settings commands max_count max_bytes ≡ [] → IsOk result

-- nothing changed but the cover
abbrev pub IsRecovered : Held → Held → Type 0
IsRecovered old new = new ≡ recovered new.cover old

-- a call of the connection under the cover that it has then, of whose seat this turn of pressure is told. The seat held
-- what the call writes beside what was pending, if the connection accepts that; it took no more than it lacked for that
-- and a quantum, or gave back what was spare, as it does if the call writes nothing
pub record CallsUnder {A E : Type 0} (Uncovered : E → Type 0) (Does : Connected → Result A E → Connected → Type 0) (commands : List Command)
    (old : Held) (result : Result A E) (pressure : Option Pressure) (new : Held) : Type 0 where
  pub calls : IsCall Uncovered Does commands (recovered new.cover old) result new
  pub covers : IfErr result (λ fault. ¬ Uncovered fault)
  pub tells : TellsIf old.cover pressure new.cover
  pub enough : 0 < bytes_written old.connected.unsent.settings.estimate commands → AcceptsFirst old.connected commands
      → HoldsFor old.connected (bytes_written old.connected.unsent.settings.estimate commands) new.cover
  pub thrifty : bytes_written old.connected.unsent.settings.estimate commands ≡ 0
      → SparesAtMost 2 new.connected old.cover new.cover
  pub sparing : SparesAtMost 2 new.connected old.cover new.cover
      ⊎ TakesFor old.connected (bytes_written old.connected.unsent.settings.estimate commands) old.cover new.cover

-- the act was not made, and comes back: the connection would accept what it writes, its seat does not hold that beside
-- what is pending, and a raise by what it lacks was refused; no turn of pressure is told, and nothing changed
pub record PassesBudget {A : Type 0} (commands : List Command) (act : A) (old : Held) (over : OverBudget A)
    (pressure : Option Pressure) (new : Held) : Type 0 where
  pub back : over.act ≡ act
  pub same : IsRecovered old new
  pub untold : pressure ≡ None
  pub tells : TellsIf old.cover None new.cover
  pub accepted : AcceptsFirst old.connected commands
  pub lacks : LacksRoom old.connected old.cover (bytes_written old.connected.unsent.settings.estimate commands) over.fault
      new.cover

-- a call that the budget covers, or one that it does not
abbrev pub ActsBy : {A E B : Type 0} → (E → Type 0) → (Connected → Result A E → Connected → Type 0) → List Command → B → Held
    → Result (Result A E) (OverBudget B) → Option Pressure → Held → Type 0
ActsBy Lacking Does commands act old (Ok result) pressure new = CallsUnder Lacking Does commands old result pressure new
ActsBy Lacking Does commands act old (Err over) pressure new = PassesBudget commands act old over pressure new

-- as the call tells it
abbrev pub ActsWithin : {A E B : Type 0} → (E → Type 0) → (Connected → Result A E → Connected → Type 0) → List Command → B → Held
    → Told (Result (Result A E) (OverBudget B)) → Held → Type 0
ActsWithin Lacking Does commands act old told new = ActsBy Lacking Does commands act old told.answer told.pressure new

-- the seat of the cover gave back what was spare, down to so many quanta at most, and told of this turn
pub record Settles (quanta : ℕ) (pressure : Option Pressure) (old new : Held) : Type 0 where
  pub same : IsRecovered old new
  pub tells : TellsIf old.cover pressure new.cover
  pub spares : SparesAtMost quanta new.connected old.cover new.cover

-- the bytes are told that the seat of the cover holds, if there is one, and nothing changed
pub record ShowsHeld (held : Option ℕ) (old new : Held) : Type 0 where
  pub held_is : held ≡ held_by old.cover
  pub same : new ≡ old

-- a seat of a budget, what the connection was opened with that it covers, and the calls that this accepted: none, if it
-- covers none
pub record Covering : Type 0 where
  pub account : Account
  pub settings : Settings
  pub log : List Call

-- the bytes that are pending after those calls
abbrev pub pending_under : Covering → ℕ
pending_under covering = pending covering.settings (commands_of covering.log)

-- whatever the seats of a budget cover, if of no connection more is pending than its seat holds, of all together no
-- more is pending than the room
abbrev pub AllWithinRoom : Type 0
AllWithinRoom =
    (bounds : BoundsValue) (word : ℕ) (seats : List Covering)
    → Keeps bounds word (map (λ covering. covering.account) seats)
    → All (λ covering. pending_under covering ≤ covering.account.held) seats
    → sum_by pending_under seats ≤ bounds.room
