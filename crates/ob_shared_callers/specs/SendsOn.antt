-- What a transport does each time that it has the buffer.
use Rattle.std.specs.Prelude.{◌≡◌, ◌<◌, ℕ, true, Result, Ok, Err, OnErr, OnOk}
use Rattle.ob_types.specs.declared.command.Command.TheVariants.{FailFlushed, RemoveBytes}
use Rattle.ob_types.specs.declared.refusal.Refusal.{Refusal}
use Rattle.ob_history.specs.History.{IsCall, IsRecording, History}
use Rattle.ob_history.specs.declared.receipt.Receipt.{Receipt}
use Rattle.ob_transport.specs.Pass.{Drains, Standing}
use Rattle.ob_transport.specs.declared.draining.Drained.{Drained}
use Rattle.ob_transport.specs.declared.fault.PassFault.{PassFault}
use Rattle.ob_transport.specs.declared.fault.PassFault.TheVariants.{Sink, HistoryFull, NoMemory, Unbooked}
use Rattle.ob_transport.specs.declared.limits.Limits.{Limits}

-- at most 64 blocks and 65536 bytes are offered at once
abbrev pub offered_at_once : Limits
offered_at_once = record { max_count = 64; max_bytes = 65536 }

-- what comes of a drain: bytes that a sink took and that are not booked are left; if the sink failed, all that is
-- flushed fails for its number, with notice; and else nothing is left, and nothing more is done
abbrev pub ComesOf : ℕ → Standing → Result Drained PassFault → ℕ → Standing → Type 0
ComesOf caller drained (Ok done) left after = (left ≡ 0) × (after ≡ drained)
ComesOf caller drained (Err (Sink fault)) left after =
    (left ≡ 0) × (after.sink ≡ drained.sink) × (failing : Result (Unit {0}) Refusal)
    × IsRecording drained.history caller (FailFlushed (record { 0 = fault.0 }) true) failing after.history
ComesOf caller drained (Err HistoryFull) left after = (left ≡ 0) × (after ≡ drained)
ComesOf caller drained (Err NoMemory) left after = (left ≡ 0) × (after ≡ drained)
ComesOf caller drained (Err (Unbooked taken)) left after = (left ≡ taken) × (after ≡ drained)

-- what is flushed is drained in up to 16 passes
pub record SendsNext (caller : ℕ) (before : Standing) (left : ℕ) (after : Standing) : Type 0 where
  pub end : Result Drained PassFault
  pub drained : Standing
  pub drains : Drains offered_at_once caller 16 before end drained
  pub comes : ComesOf caller drained end left after

-- bytes that a sink took are removed by a call before anything else is done; if that is refused, as many are left, and
-- history and sink are as they were
pub record BooksFirst (caller unbooked : ℕ) (before : Standing) (left : ℕ) (after : Standing) : Type 0 where
  pub booking : Result Receipt Refusal
  pub booked : History
  pub is_call : IsCall before.history caller (RemoveBytes unbooked) booking booked
  pub refused : OnErr booking ((left ≡ unbooked) × (after ≡ before))
  pub goes_on : OnOk booking (SendsNext caller (record before { history = booked }) left after)

-- what was taken and is not booked is booked first, if there is any; then what is flushed is sent
pub record SendsOn (caller unbooked : ℕ) (before : Standing) (left : ℕ) (after : Standing) : Type 0 where
  pub all_booked : unbooked ≡ 0 → SendsNext caller before left after
  pub books_first : 0 < unbooked → BooksFirst caller unbooked before left after
