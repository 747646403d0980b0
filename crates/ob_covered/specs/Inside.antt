-- How a cover and a covered connection are kept. No public clause cites it.
use Rattle.std.specs.Prelude.{◌≡◌, ◌≤◌, ◌+◌, ℕ, Option, None, Result, Ok, Err, IfOk, IfErr, OnErr, OnOk}
use Rattle.std.specs.Arc.{arc_value}
use Rattle.ob_types.specs.PendingSize.{counted_bytes}
use Rattle.ob_types.specs.declared.command.Command.TheVariants.{Write}
use Rattle.ob_types.specs.declared.message.Message.{Message}
use Rattle.ob_types.specs.declared.refusal.Refusal.{Refusal}
use Rattle.ob_budget.specs.declared.pressure.Pressure.{Pressure}
use Rattle.ob_connection.specs.Connected.{Connected}
use Rattle.ob_connection.specs.Obeying.{Obeys, written_reply}
use Rattle.ob_connection.specs.declared.replies.Written.{Written}
use Rattle.ob_covered.specs.Budgeted.{BudgetedValue, IsNotWritten, IsPending, OverBudgetAlone, refused}
use Rattle.ob_covered.specs.Cover.{CoverValue, TakesSparingly, Tells}
use Rattle.ob_covered.specs.declared.cover.Cover.TheInside.{Inside as CoverInside}
use Rattle.ob_covered.specs.declared.fault.WriteFault.{WriteFault}
use Rattle.ob_covered.specs.declared.fault.WriteFault.TheVariants.{Refused, OverBudget}

abbrev pub cover_of : CoverInside → CoverValue
cover_of cover = record { seat = cover.seat; quantum = cover.quantum }

-- this many bytes are held, and these beside what is pending are no more
pub record HoldsBeside (connection : Connected) (bytes held : ℕ) : Type 0 where
  pub now : ℕ
  pub is_pending : IsPending connection now
  pub fits : now + bytes ≤ held

-- the seat holds a message beside what is pending of the connection, which stays as it was; or why it is not written
pub record Covers (message : Message) (old : BudgetedValue) (answer : Result (Option Pressure) WriteFault)
    (new : BudgetedValue) : Type 0 where
  pub same : new.connection ≡ old.connection
  pub holds : OnOk answer (HoldsBeside old.connection (counted_bytes old.connection.unsent.settings.estimate message)
      new.cover.seat.account.held)
  pub told : IfOk answer (λ pressure. Tells old.cover pressure new.cover)
  pub untold : OnErr answer (Tells old.cover None new.cover)
  pub refused : IfErr answer (λ why. IsNotWritten old message why new)
  pub last : IfErr answer (OverBudgetAlone old.connection message)
  pub sparing : (now : ℕ) → IsPending old.connection now
      → TakesSparingly (now + counted_bytes old.connection.unsent.settings.estimate message) old.cover new.cover

-- a write that the connection refused
abbrev pub IsNotPut : Connected → Message → WriteFault → Connected → Type 0
IsNotPut old message (Refused refusal) new = Obeys old (Write message) written_reply (refused refusal) new
IsNotPut old message (OverBudget fault) new = ⊥

-- what the connection answered to a write that the budget let through
abbrev pub let_through : Result Written Refusal → Result Written WriteFault
let_through (Ok written) = Ok written
let_through (Err refusal) = Err (Refused refusal)

-- the seat is at the budget that stands beside it
pub record IsCover (cover : CoverInside) : Type 0 where
  pub budget : cover.seat.budget ≡ arc_value cover.budget
