-- What a call of a lane does: its own steps, and the change that it reports, of a charge, a discharge, a user bit and a
-- read. The refusals of a split, and what two lanes become that are joined.
use Rattle.std.specs.Int.{bit_at}
use Rattle.std.specs.List.{list_all, range_with_len}
use Rattle.std.specs.Prelude.{◌≡◌, ◌++◌, ℕ, ◌<◌, ◌==◌, List, All, Option, Some, None, if◌then◌else◌, Bool, ◌≤◌, ◌+◌}
use Rattle.std.specs.Prelude.{min, not, ◌||◌, nat_lt, [], ◌∷◌, max}
use Rattle.ob_types.specs.Marks.{word_half, total_half}
use Rattle.ob_types.specs.declared.reply.Change.{Change}
use Rattle.ob_core.specs.World.{owed_by, is_set, MakeUp, first_fault}
use Rattle.ob_core.specs.Step.{IsFree, change_found, lane_after}
use Rattle.ob_core.specs.declared.lane.Lane.{Lane}
use Rattle.ob_core.specs.declared.lane_step.LaneStep.{LaneStep}
use Rattle.ob_core.specs.declared.lane_step.LaneStep.TheVariants.{Load, SetBit, ClearBit}
use Rattle.ob_lanes.specs.Run.{one_step, RunningLane, IsSameLane, SeesStep, ShowsHeld, room_outside}
use Rattle.ob_lanes.specs.declared.facts.Made.{Made}
use Rattle.ob_lanes.specs.declared.fault.SplitFault.{SplitFault}
use Rattle.ob_lanes.specs.declared.fault.SplitFault.TheVariants.{NoRoom, NotHeld}

-- a lane has made this step: it comes after those that it made before, on the same word, and the lane sees it
pub record HasMade (step : LaneStep) (found : ℕ) (old new : RunningLane) : Type 0 where
  pub words : new.words ≡ old.words
  pub made : new.made ≡ old.made ++ one_step step found
  pub same : IsSameLane old new
  pub sees : SeesStep step found old new

-- the debt of a charge: one of 0 is none
abbrev pub debt_of : ℕ → Option ℕ
debt_of amount = if amount == 0 then None else Some amount

-- these steps are reads
abbrev pub AreReads : List Made → Type 0
AreReads reads = All (λ made. made.step ≡ Load) reads

-- after some reads a lane has made one step more, which it sees; the change is that of the step by what it found
pub record IsOneStep (step : LaneStep) (old new : RunningLane) (change : Option Change) : Type 0 where
  pub reads : List Made
  pub are_reads : AreReads reads
  pub found : ℕ
  pub made : new.made ≡ old.made ++ reads ++ one_step step found
  pub turn : change ≡ change_found step old.words.grant.marks found
  pub sees : SeesStep step found old new

-- a call has changed the debt of a lane to this one, and nothing else of it, on the same word; if the amount is above 0,
-- it made the step and has the change of that; if it is 0, it made no step, saw nothing and has no change
pub record ChangesDebt (debt : Option ℕ) (amount : ℕ) (step : LaneStep) (old new : RunningLane)
    (change : Option Change) : Type 0 where
  pub words : new.words ≡ old.words
  pub same : IsSameLane old new
  pub owes : new.lane ≡ record old.lane { debt = debt }
  pub made : 0 < amount → IsOneStep step old new change
  pub nothing : amount ≡ 0 → (new.made ≡ old.made) × (new.seen ≡ old.seen) × (change ≡ None)

-- writable clears the bit, and not writable sets it
abbrev pub bit_step : ℕ → Bool → LaneStep
bit_step index writable = if writable then ClearBit index else SetBit index

-- the lane has made this one step, and is as the core says after it; the change is that of the step by what it found
pub record IsBit (step : LaneStep) (old new : RunningLane) (change : Option Change) : Type 0 where
  pub found : ℕ
  pub steps : HasMade step found old new
  pub lane : new.lane ≡ lane_after step old.lane
  pub turn : change ≡ change_found step old.words.grant.marks found

-- the lane has made one step, which read this total, and is as it was; the total is at least what the lane owes, and at
-- most that and all room outside the lane
pub record IsTotalRead (old : RunningLane) (total : ℕ) (new : RunningLane) : Type 0 where
  pub found : ℕ
  pub steps : HasMade Load found old new
  pub total_is : total ≡ total_half found
  pub lane : new.lane ≡ old.lane
  pub least : owed_by old.lane ≤ total
  pub most : total ≤ owed_by old.lane + room_outside old

-- the lane has made one step, which read this word, and is as it was; of the bits that it holds, the word shows exactly
-- those that it has raised
pub record IsWordRead (old : RunningLane) (word : ℕ) (new : RunningLane) : Type 0 where
  pub found : ℕ
  pub steps : HasMade Load found old new
  pub word_is : word ≡ word_half found
  pub lane : new.lane ≡ old.lane
  pub held : ShowsHeld old.lane word

-- the number under which a fault is known
abbrev pub number_of : SplitFault → ℕ
number_of NoRoom = 1
number_of NotHeld = 2

-- whether each of the bits 0 to 31 that is set in the first mask is set in the second
unfoldable pub are_held : ℕ → ℕ → Bool
are_held bits held = list_all (λ index. not (is_set bits index) || is_set held index) (range_with_len 0 32)

-- the first refusal of a split that asks for this room and these bits, or none
abbrev pub split_fault : Lane → ℕ → ℕ → Option SplitFault
split_fault lane room bits =
    first_fault ((nat_lt lane.room room, NoRoom) ∷ (not (are_held bits lane.held), NotHeld) ∷ [])

-- two lanes that are free have together the room and the bits of the lane that was split; the second has this room and
-- these bits, raised if they were
pub record IsSplit (room bits : ℕ) (lane first second : Lane) : Type 0 where
  pub first_free : IsFree first
  pub second_free : IsFree second
  pub rooms : first.room + second.room ≡ lane.room
  pub second_room : second.room ≡ room
  pub held : MakeUp lane.held first.held second.held
  pub second_held : second.held ≡ bits
  pub raised : MakeUp lane.raised first.raised second.raised
  pub second_raised : (index : ℕ) → bit_at second.raised index ≡ min (bit_at lane.raised index) (bit_at bits index)

-- a lane that is free has the rooms of two together, which are never more than the whole room, and the bits of both,
-- raised as they were
pub record IsJoined (whole : ℕ) (lane other both : Lane) : Type 0 where
  pub free : IsFree both
  pub room : both.room ≡ min (lane.room + other.room) whole
  pub held : (index : ℕ) → bit_at both.held index ≡ max (bit_at lane.held index) (bit_at other.held index)
  pub raised : (index : ℕ) → bit_at both.raised index ≡ max (bit_at lane.raised index) (bit_at other.raised index)
