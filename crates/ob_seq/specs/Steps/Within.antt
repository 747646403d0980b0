-- What a call does to what waits, whatever outcomes the messages had that are gone, and what its result says, as the
-- reply of the model. Each reply goes by the promises as they were before the call. Of public clauses those of
-- `Contents` cite it, and of the replies those of connections.
use Rattle.std.specs.Prelude.{◌≡◌, ◌+◌, ◌++◌, ◌∷◌, ℕ, Bool, true, false, List, [], if◌then◌else◌, Option, Some, None, Result, Ok, Err, ⊤}
use Rattle.std.specs.Prelude.{IsErrOf, OnErr, map, take}
use Rattle.ob_types.specs.declared.promise.Outcome.{Outcome}
use Rattle.ob_types.specs.declared.promise.Outcome.TheVariants.{Cancelled, Success}
use Rattle.ob_types.specs.declared.promise.PromiseState.{PromiseState}
use Rattle.ob_types.specs.declared.refusal.Refusal.{Refusal}
use Rattle.ob_types.specs.declared.refusal.Refusal.TheVariants.{NoMemory}
use Rattle.ob_types.specs.declared.reply.Answer.TheVariants.{Count, Yes, Done}
use Rattle.ob_types.specs.declared.reply.Change.{Change}
use Rattle.ob_types.specs.declared.reply.Reply.{Reply}
use Rattle.ob_seq.specs.Answer.{told_by}
use Rattle.ob_seq.specs.Pending.{Pending}
use Rattle.ob_seq.specs.Steps.Commands.{bytes_removed, front_taken}
use Rattle.ob_seq.specs.Steps.Step.{Step, Makes, times}
use Rattle.ob_seq.specs.Unsent.{LeavesRoom, Unsent, ended, waiting_count, whole}
use Rattle.ob_seq.specs.declared.contents.cut.Cut.{Cut}
use Rattle.ob_seq.specs.declared.contents.take.Front.{Front}

-- a call makes this step, and its result says this; it lets no message go, there is room for as many as before, it takes and
-- gives back no memory, and if it is refused all is as it was
pub record StepsWithin {A : Type 0} (step : Pending → Step) (tell : List PromiseState → A → Reply) (old : Unsent)
    (result : Result A Refusal) (new : Unsent) : Type 0 where
  pub makes : (gone : List Outcome) → let now = whole gone old in
      Makes now (step now) (told_by (tell now.promises) result) (whole gone new)
  pub as_many : waiting_count new ≡ waiting_count old
  pub room : new.room ≡ old.room
  pub memory : new.capacity ≡ old.capacity
  pub frugal : ¬ IsErrOf result NoMemory
  pub refused : OnErr result (new ≡ old)

-- `count` fronts are taken away, whatever outcome they leave with: one that was voided ended as cancelled; no place to spare is
-- lost
pub record TakesFirst (count : ℕ) (notice : Bool) (old new : Unsent) : Type 0 where
  pub taken : (gone : List Outcome) (outcome : Outcome) →
      whole (gone ++ map (ended outcome) (take count old.line)) new
      ≡ times count (front_taken notice outcome) (whole gone old)
  pub fewer : waiting_count new + count ≡ waiting_count old
  pub room : LeavesRoom count old.room old.capacity new.room new.capacity

-- the fronts are taken away that a removal of bytes takes which ends there, and bytes are skipped of the next one; no place to
-- spare is lost
pub record TakesCut (cut : Cut) (old new : Unsent) : Type 0 where
  pub taken : (gone : List Outcome) →
      whole (gone ++ map (ended Success) (take cut.whole old.line)) new ≡ bytes_removed cut (whole gone old)
  pub fewer : waiting_count new + cut.whole ≡ waiting_count old
  pub room : LeavesRoom cut.whole old.room old.capacity new.room new.capacity

-- a call that has nothing to say
abbrev pub done_reply : List PromiseState → ⊤ → Reply
done_reply promises done = record { answer = Done; settled = []; change = None }

-- a change of a user bit: the change of writability
abbrev pub bit_reply : List PromiseState → Option Change → Reply
bit_reply promises change = record { answer = Done; settled = []; change = change }

-- a call that settles nothing and counts this many messages: the change of writability
abbrev pub counted_reply : ℕ → List PromiseState → Option Change → Reply
counted_reply count promises change = record { answer = Count count; settled = []; change = change }

-- a cancellation of this promise: whether it came in time
abbrev pub cancelled_reply : ℕ → List PromiseState → Bool → Reply
cancelled_reply id promises in_time = record {
  answer = Yes in_time;
  settled = if in_time then (record { 0 = id }, Cancelled) ∷ [] else [];
  change = None;
}

-- a removal of the front with this outcome, whose id is this: whether there was one, and whether its promise is settled
abbrev pub front_reply : ℕ → Outcome → Option Front → Reply
front_reply id outcome None = record { answer = Yes false; settled = []; change = None }
front_reply id outcome (Some front) = record {
  answer = Yes true;
  settled = if front.settles then (record { 0 = id }, outcome) ∷ [] else [];
  change = front.change;
}

-- how the messages ended that such a removal let go: one that was voided ended as cancelled
abbrev pub front_endings : Outcome → Result (Option Front) Refusal → List Outcome
front_endings outcome (Err refusal) = []
front_endings outcome (Ok None) = []
front_endings outcome (Ok (Some front)) = (if front.settles then outcome else Cancelled) ∷ []
