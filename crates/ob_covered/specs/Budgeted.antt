-- A connection with a seat of its own at a budget.
use Rattle.std.specs.Prelude.{◌≡◌, ◌≤◌, ◌+◌, ◌*◌, ℕ, ⊤, false, List, Result, Ok, Err, IfOk, IfErr, OnOk}
use Rattle.ob_types.specs.PendingSize.{counted_bytes, is_oversize}
use Rattle.ob_types.specs.declared.command.Command.{Command}
use Rattle.ob_types.specs.declared.command.Command.TheVariants.{Write}
use Rattle.ob_types.specs.declared.message.Message.{Message}
use Rattle.ob_types.specs.declared.refusal.Refusal.{Refusal}
use Rattle.ob_seq.specs.Effect.{rows_after}
use Rattle.ob_seq.specs.Rows.{Settings, total}
use Rattle.ob_seq.specs.State.{closed_after}
use Rattle.ob_seq.specs.Unsent.{room_for_one_more}
use Rattle.ob_connection.specs.Connected.{Connected, StandsFor, Gives, room_in}
use Rattle.ob_connection.specs.Obeying.{Accepts, Obeys, written_reply}
use Rattle.ob_connection.specs.declared.replies.Written.{Written}
use Rattle.ob_budget.specs.declared.fault.RaiseFault.{RaiseFault}
use Rattle.ob_covered.specs.Cover.{CoverValue, IsShort, HoldsAtMost, TakesSparingly, Tells}
use Rattle.ob_covered.specs.declared.fault.Told.{Told}
use Rattle.ob_covered.specs.declared.fault.WriteFault.{WriteFault}
use Rattle.ob_covered.specs.declared.fault.WriteFault.TheVariants.{Refused, OverBudget}

-- a connection, and the seat that covers what is pending of it
pub record BudgetedValue : Type 0 where
  pub connection : Connected
  pub cover : CoverValue

-- the bytes that are pending after a history
abbrev pub pending : Settings → List Command → ℕ
pending settings commands = total (rows_after settings.estimate commands)

-- whatever history the connection stands for, this many bytes are pending after it
abbrev pub IsPending : Connected → ℕ → Type 0
IsPending connection bytes = Gives connection (λ settings commands. pending settings commands) bytes

-- whatever history the connection stands for, at most this many bytes are pending after it
abbrev pub IsWithin : Connected → ℕ → Type 0
IsWithin connection bytes =
    (commands : List Command) → StandsFor connection commands → pending connection.unsent.settings commands ≤ bytes

-- what is pending, and what its seat may hold beside it after a call
pub record IsThrifty (old new : BudgetedValue) : Type 0 where
  pub now : ℕ
  pub is_pending : IsPending new.connection now
  pub spare : HoldsAtMost (now + 2 * new.cover.quantum) old.cover new.cover

-- the connection is open and can count the message, its seat does not hold that beside what is pending, and a raise by
-- what it lacks was refused
pub record IsOverBudget (old : BudgetedValue) (message : Message) (fault : RaiseFault)
    (new : BudgetedValue) : Type 0 where
  pub unclosed : Gives old.connection closed_after false
  pub counted : is_oversize old.connection.unsent.settings.estimate message ≡ false
  pub same : new.connection ≡ old.connection
  pub now : ℕ
  pub is_pending : IsPending old.connection now
  pub short : IsShort (now + counted_bytes old.connection.unsent.settings.estimate message) fault old.cover new.cover

-- a write that the budget refuses is one that the connection would accept
abbrev pub OverBudgetAlone : Connected → Message → WriteFault → Type 0
OverBudgetAlone old message (Refused refusal) = ⊤
OverBudgetAlone old message (OverBudget fault) = Accepts old (Write message)

-- the result of a write that the connection accepted
abbrev pub accepted : Written → Result Written Refusal
accepted written = Ok written

-- and of one that it refused
abbrev pub refused : Refusal → Result Written Refusal
refused refusal = Err refusal

-- a write is refused as the connection refuses it, or since the budget does
abbrev pub IsNotWritten : BudgetedValue → Message → WriteFault → BudgetedValue → Type 0
IsNotWritten old message (Refused refusal) new =
    Obeys old.connection (Write message) written_reply (refused refusal) new.connection
IsNotWritten old message (OverBudget fault) new = IsOverBudget old message fault new

-- a message is written as by the connection, or refused as by it, or since the budget does not cover it; the seat has told
-- the turn of pressure that is returned, and takes no more than it lacks and a quantum
pub record WritesWithin {E : Type 0} (why : E → WriteFault) (message : Message) (old : BudgetedValue)
    (told : Told (Result Written E)) (new : BudgetedValue) : Type 0 where
  pub written : IfOk told.answer (λ written.
      Obeys old.connection (Write message) written_reply (accepted written) new.connection)
  pub room : OnOk told.answer (room_in new.connection ≡ room_for_one_more old.connection.unsent)
  pub refused : IfErr told.answer (λ fault. IsNotWritten old message (why fault) new)
  pub tells : Tells old.cover told.pressure new.cover
  pub sparing : (now : ℕ) → IsPending old.connection now
      → TakesSparingly (now + counted_bytes old.connection.unsent.settings.estimate message) old.cover new.cover

-- the seat was asked to hold this many bytes beside what is pending: it does, or a raise by what it lacks was refused
pub record CoversAhead (bytes : ℕ) (old : BudgetedValue) (told : Told (Result ⊤ RaiseFault)) (new : BudgetedValue) : Type 0 where
  pub same : new.connection ≡ old.connection
  pub covered : OnOk told.answer ((now : ℕ) → IsPending old.connection now → now + bytes ≤ new.cover.seat.account.held)
  pub sparing : (now : ℕ) → IsPending old.connection now → TakesSparingly (now + bytes) old.cover new.cover
  pub short : IfErr told.answer (λ fault. (now : ℕ) → IsPending old.connection now
      → IsShort (now + bytes) fault old.cover new.cover)
  pub tells : Tells old.cover told.pressure new.cover
