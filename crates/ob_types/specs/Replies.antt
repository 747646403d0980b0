-- Which promises still wait, how one ended, and the refusals by number.
use Rattle.std.specs.Prelude.{Bool, true, false, ℕ}
use Rattle.ob_types.specs.declared.promise.Outcome.{Outcome}
use Rattle.ob_types.specs.declared.promise.Outcome.TheVariants.{Success, Failed, Cancelled}
use Rattle.ob_types.specs.declared.promise.PromiseState.{PromiseState}
use Rattle.ob_types.specs.declared.promise.PromiseState.TheVariants.{Waiting, Fixed, Settled}
use Rattle.ob_types.specs.declared.refusal.Refusal.{Refusal}
use Rattle.ob_types.specs.declared.refusal.Refusal.TheVariants.{Oversize, BadMarks, TooMuch, Closed, NothingFlushed}
use Rattle.ob_types.specs.declared.refusal.Refusal.TheVariants.{TooFar, TooManyBytes, BadIndex, FlushedLeft}
use Rattle.ob_types.specs.declared.refusal.Refusal.TheVariants.{UnknownPromise, HistoryFull, NoMemory}

-- whether nothing has become of a promise yet: no flush has fixed it, and it is not settled
abbrev pub is_waiting : PromiseState → Bool
is_waiting Waiting = true
is_waiting Fixed = false
is_waiting (Settled outcome) = false

-- whether an outcome is that a message was sent
abbrev pub is_success : Outcome → Bool
is_success Success = true
is_success (Failed cause) = false
is_success Cancelled = false

-- whether an outcome is that a message failed
abbrev pub is_failed : Outcome → Bool
is_failed Success = false
is_failed (Failed cause) = true
is_failed Cancelled = false

-- whether an outcome is that a promise was cancelled
abbrev pub is_cancelled : Outcome → Bool
is_cancelled Success = false
is_cancelled (Failed cause) = false
is_cancelled Cancelled = true

-- the number under which a refusal is known in traces
abbrev pub number_of : Refusal → ℕ
number_of Oversize = 1
number_of BadMarks = 2
number_of TooMuch = 3
number_of Closed = 4
number_of NothingFlushed = 5
number_of TooFar = 6
number_of TooManyBytes = 7
number_of BadIndex = 8
number_of FlushedLeft = 9
number_of UnknownPromise = 10
number_of HistoryFull = 11
number_of NoMemory = 12
