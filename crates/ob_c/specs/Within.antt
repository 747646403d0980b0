-- What an export promises of a shared connection within a budget.
use Rattle.std.specs.Prelude.{◌≡◌, ℕ, ⊤, true, false, List, [], ◌∷◌, Option, Some, None, Result, Ok, Err}
use Rattle.ob_types.specs.declared.command.Command.{Command}
use Rattle.ob_types.specs.declared.command.Command.TheVariants.{Flush, Write}
use Rattle.ob_types.specs.declared.message.Message.{Message}
use Rattle.ob_seq.specs.Rows.{Settings}
use Rattle.ob_budget.specs.declared.fault.RaiseFault.{RaiseFault}
use Rattle.ob_budget.specs.declared.fault.RaiseFault.TheVariants.{Full, Busy}
use Rattle.ob_budget.specs.declared.pressure.Pressure.{Pressure}
use Rattle.ob_connection.specs.Connected.{Connected}
use Rattle.ob_connection.specs.declared.replies.Written.{Written as WrittenReply}
use Rattle.ob_covered.specs.Cover.{CoverValue, left_of}
use Rattle.ob_covered.specs.declared.fault.Told.{Told}
use Rattle.ob_shared_connection.specs.Calls.{IsUncovered, Putting, ThenFlushes, IsFirst, ActsBy}
use Rattle.ob_shared_connection.specs.Values.{HandleValue, Held}
use Rattle.ob_shared_connection.specs.declared.not_written.WriteFault.{WriteFault}
use Rattle.ob_shared_connection.specs.declared.over.OverBudget.{OverBudget}
use Rattle.ob_shared_connection.specs.declared.written.WrittenAndFlushed.{WrittenAndFlushed as WrittenAndFlushedReply}
use Rattle.ob_c.specs.Budgets.{IsButForSeats, pressed_written_in_c, pressure_number}
use Rattle.ob_c.specs.Replies.{already_open, busy, done, no_memory, not_open, over_budget, put_reply}
use Rattle.ob_c.specs.Replies.{written_and_flushed_in_c}
use Rattle.ob_c.specs.declared.pressed.PressedDone.{PressedDone}
use Rattle.ob_c.specs.declared.pressed.PressedWritten.{PressedWritten}
use Rattle.ob_c.specs.declared.pressed.PressedWrittenAndFlushed.{PressedWrittenAndFlushed}
use Rattle.ob_c.specs.declared.tries_within.SeatTold.{SeatTold}

-- a call that was made, or why the budget did not cover it: what it was to write is let go
abbrev pub without_act : {A B : Type 0} → Result A (OverBudget B) → Result A RaiseFault
without_act (Ok answer) = Ok answer
without_act (Err over) = Err over.fault

-- the same with the turn of pressure
abbrev pub let_go : {A B : Type 0} → Told (Result A (OverBudget B)) → Told (Result A RaiseFault)
let_go told = record { answer = without_act told.answer; pressure = told.pressure }

-- as a call says it of which nothing comes back
abbrev pub with_nothing : {A : Type 0} → Result A RaiseFault → Result A (OverBudget ⊤)
with_nothing (Ok answer) = Ok answer
with_nothing (Err fault) = Err (record { fault = fault; act = tt })

-- under the lock a call was made that the budget covers, or it was not since the budget does not cover it
abbrev pub DoesWithin : {A E : Type 0} → (E → Type 0) → (Connected → Result A E → Connected → Type 0) → List Command
    → Told (Result (Result A E) RaiseFault) → Held → Held → Type 0
DoesWithin Uncovered Does commands told before after =
    ActsBy Uncovered Does commands tt before (with_nothing told.answer) told.pressure after

-- a message is written so
abbrev pub PutsWithin : Message → Told (Result (Result WrittenReply WriteFault) RaiseFault) → Held → Held → Type 0
PutsWithin message told before after = DoesWithin IsUncovered (Putting message) (Write message ∷ []) told before after

-- and flushed behind it
abbrev pub PutsAndFlushesWithin : Message → Told (Result (Result WrittenAndFlushedReply WriteFault) RaiseFault) → Held → Held
    → Type 0
PutsAndFlushesWithin message told before after =
    DoesWithin IsUncovered (ThenFlushes (Putting message)) (Write message ∷ Flush ∷ []) told before after

-- the status of a write that the budget did not cover
abbrev pub raise_number : RaiseFault → ℕ
raise_number Full = over_budget
raise_number Busy = busy

-- the reply to a write, or the status of its refusal
abbrev pub within_reply : {A : Type 0} → Result (Result A WriteFault) RaiseFault → Result A ℕ
within_reply (Err fault) = Err (raise_number fault)
within_reply (Ok answer) = put_reply answer

-- the same with the number of the turn of pressure, unless the write was not tried
abbrev pub within_told : {A : Type 0} → Result (Told (Result (Result A WriteFault) RaiseFault)) ℕ → Result A ℕ × ℕ
within_told (Err status) = (Err status, 0)
within_told (Ok told) = (within_reply told.answer, pressure_number told.pressure)

-- what C is told of it
abbrev pub within_in_c : Result (Told (Result (Result WrittenReply WriteFault) RaiseFault)) ℕ → PressedWritten
within_in_c told = pressed_written_in_c (within_told told)

abbrev pub pressed_written_and_flushed_in_c : Result WrittenAndFlushedReply ℕ × ℕ → PressedWrittenAndFlushed
pressed_written_and_flushed_in_c told = record { done = written_and_flushed_in_c told.0; pressure = told.1 }

-- and of one with the flush behind it
abbrev pub within_and_flushed_in_c : Result (Told (Result (Result WrittenAndFlushedReply WriteFault) RaiseFault)) ℕ
    → PressedWrittenAndFlushed
within_and_flushed_in_c told = pressed_written_and_flushed_in_c (within_told told)

-- what C is told of a seat that gave back what it could
abbrev pub gave_in_c : Result (Option Pressure) ℕ → PressedDone
gave_in_c (Err status) = record { status = status; pressure = 0 }
gave_in_c (Ok pressure) = record { status = done; pressure = pressure_number pressure }

-- what C is told of the bytes that a seat holds, if the connection is within a budget
abbrev pub seat_told_in_c : Result (Option ℕ) ℕ → SeatTold
seat_told_in_c (Err status) = record { status = status; is_within = false; held = 0 }
seat_told_in_c (Ok None) = record { status = done; is_within = false; held = 0 }
seat_told_in_c (Ok (Some held)) = record { status = done; is_within = true; held = held }

-- a connection with these settings is opened under a cover that was cut off, as its first handle, if one was and memory
-- does not run out
abbrev pub KeepsSharedWithin : {E : Type 0} → Settings → Result CoverValue E → ℕ → Option HandleValue → Type 0
KeepsSharedWithin settings (Err refused) status None = status ≡ no_memory
KeepsSharedWithin settings (Err refused) status (Some new) = ⊥
KeepsSharedWithin settings (Ok cover) status None = status ≡ no_memory
KeepsSharedWithin settings (Ok cover) status (Some new) =
    (status ≡ done) × IsFirst settings new × (new.budget ≡ Some cover.seat.budget)

-- a connection with these settings is opened, as its first handle, which has one seat of the budget, unless there is one
-- already, the settings are refused, there is no budget, or memory or the seats of this handle of the budget run out
abbrev pub OpensSharedWithin : Option HandleValue → Result Settings ℕ → Option CoverValue → ℕ → Option HandleValue
    → Option CoverValue → Type 0
OpensSharedWithin (Some old) settings budget status new after = (status ≡ already_open) × (new ≡ Some old) × (after ≡ budget)
OpensSharedWithin None (Err refused) budget status new after = (status ≡ refused) × (new ≡ None) × (after ≡ budget)
OpensSharedWithin None (Ok settings) None status new after = (status ≡ not_open) × (new ≡ None) × (after ≡ None)
OpensSharedWithin None (Ok settings) (Some budget) status new None = ⊥
OpensSharedWithin None (Ok settings) (Some budget) status None (Some after) =
    (status ≡ no_memory) × IsButForSeats budget after
OpensSharedWithin None (Ok settings) (Some budget) status (Some new) (Some after) =
    (status ≡ done) × (after ≡ left_of 1 budget) × IsFirst settings new × (new.budget ≡ Some budget.seat.budget)
