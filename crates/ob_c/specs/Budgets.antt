-- What an export promises of a budget, and of a connection that it covers.
use Rattle.std.specs.Prelude.{◌≡◌, ◌<◌, ◌/◌, ℕ, ⊤, Bool, true, false, List, [], Option, Some, None, option_map, Result, Ok, Err}
use Rattle.ob_types.specs.Marks.{Marks}
use Rattle.ob_types.specs.Replies.{number_of}
use Rattle.ob_types.specs.declared.command.Command.TheVariants.{SetMarks}
use Rattle.ob_types.specs.declared.message.Message.{Message}
use Rattle.ob_types.specs.declared.message.Message.TheVariants.{Block as AsBlock}
use Rattle.ob_types.specs.declared.refusal.Refusal.{Refusal}
use Rattle.ob_types.specs.declared.reply.Change.{Change}
use Rattle.ob_seq.specs.Rows.{Settings}
use Rattle.ob_seq.specs.State.{writable_after, closed_after, empty_after}
use Rattle.ob_budget.specs.Bounds.{BoundsValue}
use Rattle.ob_budget.specs.Calls.{HasLooked}
use Rattle.ob_budget.specs.Account.{is_pressed, total_of}
use Rattle.ob_budget.specs.declared.fault.BoundsFault.{BoundsFault}
use Rattle.ob_budget.specs.declared.fault.RaiseFault.{RaiseFault}
use Rattle.ob_budget.specs.declared.fault.RaiseFault.TheVariants.{Full, Busy}
use Rattle.ob_budget.specs.declared.pressure.Look.{Look}
use Rattle.ob_budget.specs.declared.pressure.Pressure.{Pressure}
use Rattle.ob_budget.specs.declared.pressure.Pressure.TheVariants.{Began, Ended}
use Rattle.ob_connection.specs.Connected.{Connected, StandsFor, Gives}
use Rattle.ob_connection.specs.Obeying.{done_reply}
use Rattle.ob_connection.specs.declared.replies.Flushed.{Flushed as FlushedReply}
use Rattle.ob_connection.specs.declared.replies.Removed.{Removed as RemovedReply}
use Rattle.ob_connection.specs.declared.replies.Taken.{Taken as TakenReply}
use Rattle.ob_connection.specs.declared.replies.Written.{Written as WrittenReply}
use Rattle.ob_covered.specs.Budgeted.{BudgetedValue, IsPending, IsThrifty, WritesWithin}
use Rattle.ob_covered.specs.Cover.{CoverValue, IsFirst, HoldsAtMost, Tells, left_of, given_by}
use Rattle.ob_covered.specs.declared.fault.Told.{Told}
use Rattle.ob_covered.specs.declared.fault.WriteFault.{WriteFault}
use Rattle.ob_covered.specs.declared.fault.WriteFault.TheVariants.{Refused, OverBudget}
use Rattle.ob_c.specs.Replies.{accepted, already_open, bad_bounds, busy, done, no_block, no_memory, not_open, other_version, over_budget, status_in_c}
use Rattle.ob_c.specs.Calls.{ObeysFrugally, Relays}
use Rattle.ob_c.specs.Replies.{cancelled_in_c, changed_in_c, flushed_in_c, removed_in_c, taken_in_c, written_in_c}
use Rattle.ob_c.specs.declared.budgeted_looks.Standing.{Standing}
use Rattle.ob_c.specs.declared.budgets.BudgetTold.{BudgetTold}
use Rattle.ob_c.specs.declared.pressed.PressedCancelled.{PressedCancelled}
use Rattle.ob_c.specs.declared.pressed.PressedChanged.{PressedChanged}
use Rattle.ob_c.specs.declared.pressed.PressedDone.{PressedDone}
use Rattle.ob_c.specs.declared.pressed.PressedFlushed.{PressedFlushed}
use Rattle.ob_c.specs.declared.pressed.PressedRemoved.{PressedRemoved}
use Rattle.ob_c.specs.declared.pressed.PressedTaken.{PressedTaken}
use Rattle.ob_c.specs.declared.pressed.PressedWritten.{PressedWritten}

-- the bounds for a caller that was compiled for this edge, or the status of bounds that are refused
abbrev pub bounds_for : Bool → Result BoundsValue BoundsFault → Result BoundsValue ℕ
bounds_for true (Ok bounds) = Ok bounds
bounds_for true (Err fault) = Err bad_bounds
bounds_for false bounds = Err other_version

-- a budget with these bounds and nothing held is opened, unless there is one already, they are refused, or memory runs out
abbrev pub OpensBudget : Option CoverValue → Result BoundsValue ℕ → ℕ → ℕ → Option CoverValue → Type 0
OpensBudget (Some old) bounds quantum status new = (status ≡ already_open) × (new ≡ Some old)
OpensBudget None (Err refused) quantum status new = (status ≡ refused) × (new ≡ None)
OpensBudget None (Ok bounds) quantum status None = status ≡ no_memory
OpensBudget None (Ok bounds) quantum status (Some new) = (status ≡ done) × IsFirst bounds quantum new

-- the second handle holds a cover that was shared, if one was and memory does not run out
abbrev pub KeepsShare : {E : Type 0} → Result CoverValue E → ℕ → Option CoverValue → Type 0
KeepsShare (Err refused) status None = status ≡ no_memory
KeepsShare (Err refused) status (Some other) = ⊥
KeepsShare (Ok made) status None = status ≡ no_memory
KeepsShare (Ok made) status (Some other) = (status ≡ done) × (other ≡ made)

-- one cover is another, but for how many seats it is for
abbrev pub IsButForSeats : CoverValue → CoverValue → Type 0
IsButForSeats old new = new ≡ record {
  seat = record { budget = old.seat.budget; account = record old.seat.account { seats = new.seat.account.seats } };
  quantum = old.quantum;
}

-- the second is another handle of the budget of one, for a 1024th of its seats, unless that is none, there is a second
-- already, or memory runs out
abbrev pub Shares : Option CoverValue → Option CoverValue → ℕ → Option CoverValue → Option CoverValue → Type 0
Shares None second status new other = (status ≡ not_open) × (new ≡ None) × (other ≡ second)
Shares (Some old) (Some second) status new other = (status ≡ already_open) × (new ≡ Some old) × (other ≡ Some second)
Shares (Some old) None status None other = ⊥
Shares (Some old) None status (Some new) None = (status ≡ no_memory) × IsButForSeats old new
Shares (Some old) None status (Some new) (Some other) =
    (status ≡ done) × (new ≡ left_of (old.seat.account.seats / 1024) old)
    × (other ≡ given_by (old.seat.account.seats / 1024) old)

-- the seat of a cover has made one step, which read the word that the look tells of
abbrev pub SeesBudget : CoverValue → Look → CoverValue → Type 0
SeesBudget old look new =
    HasLooked old.seat new.seat × (new.quantum ≡ old.quantum) × (look.total ≡ total_of new.seat.account.last)
    × (look.is_pressed ≡ is_pressed new.seat.account.last)

-- a look at a budget
abbrev pub budget_told_in_c : Option Look → BudgetTold
budget_told_in_c None = record { status = not_open; is_pressed = false; total = 0 }
budget_told_in_c (Some look) = record { status = done; is_pressed = look.is_pressed; total = look.total }

-- a connection with these settings is opened under a cover that was cut off, if one was and memory does not run out
abbrev pub KeepsWithin : {E : Type 0} → Settings → Result CoverValue E → ℕ → Option BudgetedValue → Type 0
KeepsWithin settings (Err refused) status None = status ≡ no_memory
KeepsWithin settings (Err refused) status (Some new) = ⊥
KeepsWithin settings (Ok cover) status None = status ≡ no_memory
KeepsWithin settings (Ok cover) status (Some new) =
    (status ≡ done) × (new.cover ≡ cover) × (new.connection.unsent.settings ≡ settings) × StandsFor new.connection []

-- a connection with these settings is opened, which has one seat of the budget, unless there is one already, the settings
-- are refused, there is no budget, or memory or the seats of this handle run out
abbrev pub OpensWithin : Option BudgetedValue → Result Settings ℕ → Option CoverValue → ℕ → Option BudgetedValue
    → Option CoverValue → Type 0
OpensWithin (Some old) settings budget status new after = (status ≡ already_open) × (new ≡ Some old) × (after ≡ budget)
OpensWithin None (Err refused) budget status new after = (status ≡ refused) × (new ≡ None) × (after ≡ budget)
OpensWithin None (Ok settings) None status new after = (status ≡ not_open) × (new ≡ None) × (after ≡ None)
OpensWithin None (Ok settings) (Some budget) status new None = ⊥
OpensWithin None (Ok settings) (Some budget) status None (Some after) = (status ≡ no_memory) × IsButForSeats budget after
OpensWithin None (Ok settings) (Some budget) status (Some new) (Some after) =
    (status ≡ done) × (after ≡ left_of 1 budget) × (new.cover ≡ given_by 1 budget)
    × (new.connection.unsent.settings ≡ settings) × StandsFor new.connection []

-- the number of a turn of pressure
abbrev pub pressure_number : Option Pressure → ℕ
pressure_number None = 0
pressure_number (Some Began) = 1
pressure_number (Some Ended) = 2

-- what a command has to report, and the number of the turn of pressure
abbrev pub command_told : {A : Type 0} → Option (Told (Result A Refusal)) → Result A ℕ × ℕ
command_told None = (Err not_open, 0)
command_told (Some told) = (accepted (Some told.answer), pressure_number told.pressure)

-- the status of a write that was refused
abbrev pub budgeted_fault_number : WriteFault → ℕ
budgeted_fault_number (Refused refusal) = number_of refusal
budgeted_fault_number (OverBudget Full) = over_budget
budgeted_fault_number (OverBudget Busy) = busy

-- the reply to a write, or the status of its refusal
abbrev pub reply_of : Result WrittenReply WriteFault → Result WrittenReply ℕ
reply_of (Err why) = Err (budgeted_fault_number why)
reply_of (Ok reply) = Ok reply

-- what a write has to report, and the number of the turn of pressure
abbrev pub write_told : Option (Told (Result WrittenReply WriteFault)) → Result WrittenReply ℕ × ℕ
write_told None = (Err not_open, 0)
write_told (Some told) = (reply_of told.answer, pressure_number told.pressure)

-- a reply, and how pressure changed
abbrev pub pressed_done_in_c : Result ⊤ ℕ × ℕ → PressedDone
pressed_done_in_c told = record { status = status_in_c told.0; pressure = told.1 }

-- a write: each number is that of a connection without a budget, and so is the change, which is at most 2
abbrev pub pressed_written_in_c : Result WrittenReply ℕ × ℕ → PressedWritten
pressed_written_in_c told = record {
  status = (written_in_c told.0).status;
  change = (written_in_c told.0).change;
  pressure = told.1;
  id = (written_in_c told.0).id;
}

-- a flush: the same
abbrev pub pressed_flushed_in_c : Result FlushedReply ℕ × ℕ → PressedFlushed
pressed_flushed_in_c told = record {
  status = (flushed_in_c told.0).status;
  change = (flushed_in_c told.0).change;
  pressure = told.1;
  count = (flushed_in_c told.0).count;
}

abbrev pub pressed_removed_in_c : Result RemovedReply ℕ × ℕ → PressedRemoved
pressed_removed_in_c told = record { removed = removed_in_c told.0; pressure = told.1 }

abbrev pub pressed_taken_in_c : Result TakenReply ℕ × ℕ → PressedTaken
pressed_taken_in_c told = record { taken = taken_in_c told.0; pressure = told.1 }

abbrev pub pressed_cancelled_in_c : Result Bool ℕ × ℕ → PressedCancelled
pressed_cancelled_in_c told = record { cancelled = cancelled_in_c told.0; pressure = told.1 }

abbrev pub pressed_changed_in_c : Result (Option Change) ℕ × ℕ → PressedChanged
pressed_changed_in_c told = record { changed = changed_in_c told.0; pressure = told.1 }

-- the connection does this; the seat has told the turn of pressure that is returned, and holds little more than is pending
abbrev pub Settles : {A : Type 0} → (Connected → Result A Refusal → Connected → Type 0) → BudgetedValue
    → Told (Result A Refusal) → BudgetedValue → Type 0
Settles does old told new =
    does old.connection told.answer new.connection × Tells old.cover told.pressure new.cover × IsThrifty old new

-- the same of a handle: C is told the answer, and the turn of pressure
abbrev pub SettlesFor : {A C : Type 0} → Option BudgetedValue → (Connected → Result A Refusal → Connected → Type 0)
    → (Result A ℕ × ℕ → C) → C → Option BudgetedValue → Type 0
SettlesFor handle does in_c told new = Relays handle (Settles does) (λ answer. in_c (command_told answer)) told new

-- marks are set, if there is a connection and they are marks
abbrev pub SetsMarksWithin : Option BudgetedValue → Result Marks Refusal → PressedDone → Option BudgetedValue → Type 0
SetsMarksWithin None marks told new = (told ≡ record { status = not_open; pressure = 0 }) × (new ≡ None)
SetsMarksWithin (Some old) (Err refusal) told new =
    (told ≡ record { status = number_of refusal; pressure = 0 }) × (new ≡ Some old)
SetsMarksWithin (Some old) (Ok marks) told new =
    SettlesFor (Some old) (ObeysFrugally (SetMarks marks) done_reply) pressed_done_in_c told new

-- a message is written within the budget by the connection of a handle
abbrev pub WritesFor : Option BudgetedValue → Message → PressedWritten → Option BudgetedValue → Type 0
WritesFor handle message told new =
    Relays handle (WritesWithin (λ why. why) message) (λ answer. pressed_written_in_c (write_told answer)) told new

-- the bytes of a block are written, if there are both a connection and a block
abbrev pub WritesBlockWithin : Option BudgetedValue → Option (List ℕ) → PressedWritten → Option BudgetedValue → Type 0
WritesBlockWithin None bytes told new = (told ≡ pressed_written_in_c (Err not_open, 0)) × (new ≡ None)
WritesBlockWithin (Some old) None told new = (told ≡ pressed_written_in_c (Err no_block, 0)) × (new ≡ Some old)
WritesBlockWithin (Some old) (Some bytes) told new = WritesFor (Some old) (AsBlock bytes) told new

-- the seat gives back what it holds above what is pending, unless others came in between too often
pub record Rests (old : BudgetedValue) (pressure : Option Pressure) (new : BudgetedValue) : Type 0 where
  pub same : new.connection ≡ old.connection
  pub tells : Tells old.cover pressure new.cover
  pub given : (now : ℕ) → IsPending old.connection now → HoldsAtMost now old.cover new.cover

-- a rest
abbrev pub rested_in_c : Option (Option Pressure) → PressedDone
rested_in_c None = record { status = not_open; pressure = 0 }
rested_in_c (Some pressure) = record { status = done; pressure = pressure_number pressure }

-- an answer to who asked for cover
abbrev pub asked_status : Result ⊤ RaiseFault → ℕ
asked_status (Ok covered) = done
asked_status (Err Full) = over_budget
asked_status (Err Busy) = busy

-- the same of a handle, with the turn of pressure
abbrev pub covered_ahead_in_c : Option (Told (Result ⊤ RaiseFault)) → PressedDone
covered_ahead_in_c None = record { status = not_open; pressure = 0 }
covered_ahead_in_c (Some told) = record { status = asked_status told.answer; pressure = pressure_number told.pressure }

-- the connection is let go with its seat, which has given back all that it held; if others came in between too often, the
-- seat stays with what it holds, under a connection with nothing written
abbrev pub FreesWithin : Option BudgetedValue → PressedDone → Option BudgetedValue → Type 0
FreesWithin None told new = (told ≡ record { status = not_open; pressure = 0 }) × (new ≡ None)
FreesWithin (Some old) told None =
    (pressure : Option Pressure) × (told ≡ record { status = done; pressure = pressure_number pressure })
    × (cover : CoverValue) × Tells old.cover pressure cover × (cover.seat.account.held ≡ 0)
FreesWithin (Some old) told (Some kept) =
    (pressure : Option Pressure) × (told ≡ record { status = busy; pressure = pressure_number pressure })
    × Tells old.cover pressure kept.cover × HoldsAtMost 0 old.cover kept.cover × (0 < kept.cover.seat.account.held)
    × StandsFor kept.connection []

-- the connection of one that a budget covers, if there is one
abbrev pub covered_connection : Option BudgetedValue → Option Connected
covered_connection handle = option_map (λ budgeted. budgeted.connection) handle

-- how a connection that a budget covers stands
pub record StandsWithin (budgeted : BudgetedValue) (standing : Standing) : Type 0 where
  pub status : standing.status ≡ done
  pub writable : Gives budgeted.connection writable_after standing.writable
  pub closed : Gives budgeted.connection closed_after standing.closed
  pub empty : Gives budgeted.connection empty_after standing.empty
  pub held : standing.held ≡ budgeted.cover.seat.account.held

-- the same for C
abbrev pub standing_in_c : Option Standing → Standing
standing_in_c None = record { status = not_open; writable = false; closed = false; empty = false; held = 0 }
standing_in_c (Some standing) = standing
