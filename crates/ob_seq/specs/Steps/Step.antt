-- What one command does to a buffer that is not closed, and the words of what a buffer holds that several steps speak.
-- Of public clauses those of `Contents` cite it.
use Rattle.std.specs.Prelude.{◌≡◌, ℕ, length, if◌then◌else◌, Option, Some, None, Result, is_ok, IsErrOf, ◌+◌, ◌-◌}
use Rattle.std.specs.Prelude.{Bool, false, List, [], ◌∷◌, sum_by, slice_set, zero, suc, slice_index_or, ◌*◌, ◌/◌, ◌&&◌}
use Rattle.std.specs.Prelude.{true, nat_lt}
use Rattle.ob_types.specs.declared.refusal.Refusal.TheVariants.{Closed, NoMemory}
use Rattle.ob_types.specs.declared.refusal.Refusal.{Refusal}
use Rattle.ob_types.specs.declared.reply.Reply.{Reply}
use Rattle.ob_types.specs.declared.promise.PromiseState.TheVariants.{Waiting}
use Rattle.ob_types.specs.declared.promise.PromiseState.{PromiseState}
use Rattle.ob_types.specs.Marks.{Marks}
use Rattle.ob_seq.specs.Answer.{unless_refused}
use Rattle.ob_seq.specs.Looks.{PendingEntry}
use Rattle.ob_seq.specs.Pending.{Pending, settled_by}
use Rattle.ob_seq.specs.State.{bit_value}

-- one command carried out on what a buffer holds that is not closed: why it is refused, if it is, and else what it
-- replies and what the buffer holds after it
pub record Step : Type 0 where
  pub refusal : Option Refusal
  pub reply : Reply
  pub after : Pending

-- the first refusal of a step: that the buffer is closed comes before its own
abbrev pub first_of_step : Pending → Step → Option Refusal
first_of_step old step = if old.closed then Some Closed else step.refusal

-- the answer of a step
abbrev pub answer_by : Pending → Step → Result Reply Refusal
answer_by old step = unless_refused (first_of_step old step) step.reply

-- what is held after a step with this answer: a refused one changes nothing
abbrev pub held_by : Pending → Step → Result Reply Refusal → Pending
held_by old step answer = if is_ok answer then step.after else old

-- a step is made if its answer is given, unless it is out of memory, and what it says is held after it; it is out of
-- memory only if nothing else refuses the step
pub record Makes (old : Pending) (step : Step) (result : Result Reply Refusal) (new : Pending) : Type 0 where
  pub answer : ¬ IsErrOf result NoMemory → result ≡ answer_by old step
  pub after : new ≡ held_by old step result
  pub no_memory_last : IsErrOf result NoMemory → first_of_step old step ≡ None

-- how many promises a step of a buffer that is not closed settles: those of its reply, and none if it is refused
abbrev pub settled_open : Step → ℕ
settled_open step = length (settled_by (unless_refused step.refusal step.reply))

-- how many promises a step settles
abbrev pub settled_by_step : Pending → Step → ℕ
settled_by_step old step = length (settled_by (answer_by old step))

-- the bytes that entries count together
abbrev pub sum_of : List PendingEntry → ℕ
sum_of entries = sum_by (λ entry. entry.size) entries

-- the sum of the pending sizes of both runs: of the entries in line, and of those that no flush has reached
abbrev pub pending_total : Pending → ℕ
pending_total old = sum_of old.line + sum_of old.unflushed

-- the id of the first entry that no flush has reached: the unflushed entries have the last promises
abbrev pub unflushed_id : Pending → ℕ
unflushed_id old = length old.promises - length old.unflushed

-- the bytes that the first entry counts, or 0
abbrev pub first_size : List PendingEntry → ℕ
first_size [] = 0
first_size (entry ∷ entries) = entry.size

-- the progress of the first entry, or 0
abbrev pub first_progress : List PendingEntry → ℕ
first_progress [] = 0
first_progress (entry ∷ entries) = entry.progress

-- whether the first entry was voided
abbrev pub is_first_voided : List PendingEntry → Bool
is_first_voided [] = false
is_first_voided (entry ∷ entries) = entry.voided

-- a step taken *n* times
abbrev pub times : ℕ → (Pending → Pending) → Pending → Pending
times zero step old = old
times (suc n) step old = step (times n step old)

-- the id of the front: the entries have the last promises
abbrev pub front_id : Pending → ℕ
front_id old = length old.promises - (length old.line + length old.unflushed)

-- the line with its first entry changed
abbrev pub first_changed : (PendingEntry → PendingEntry) → List PendingEntry → List PendingEntry
first_changed change [] = []
first_changed change (entry ∷ entries) = change entry ∷ entries

-- a buffer with its front changed
abbrev pub front_changed : (PendingEntry → PendingEntry) → Pending → Pending
front_changed change old = record old { line = first_changed change old.line }

-- a buffer with the state of one promise set
abbrev pub promise_set : ℕ → PromiseState → Pending → Pending
promise_set id state old = record old { promises = slice_set old.promises id state }

-- the state of the promise with this id
abbrev pub state_at : Pending → ℕ → PromiseState
state_at old id = slice_index_or old.promises id Waiting

-- the word with bit 0 as given
abbrev pub with_mark : Bool → ℕ → ℕ
with_mark mark word = word / 2 * 2 + bit_value 0 mark

-- the word after a rise by size to sum
abbrev pub word_after_rise : Marks → ℕ → ℕ → ℕ → ℕ
word_after_rise marks word size sum = if nat_lt 0 size && nat_lt marks.high sum then with_mark true word else word

-- the word after a noticed fall by size to sum
abbrev pub word_after_fall : Marks → ℕ → ℕ → ℕ → ℕ
word_after_fall marks word size sum = if nat_lt 0 size && nat_lt sum marks.low then with_mark false word else word
