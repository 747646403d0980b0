-- One step of one lane, which is one atomic operation on the one word: which asks of a lane are refused, what a step
-- changes of the total, of the word and of the lane, which lane may make it, what it finds, and what it leaves. Lanes
-- divided and merged, which is no step of one lane, and changes neither the total nor the word.
use Rattle.std.specs.Int.{bit_at}
use Rattle.std.specs.Prelude.{ℕ, Bool, not, ◌&&◌, nat_lt, is_some, is_none, [], ◌∷◌, Option, Some, None, ◌≡◌, ◌+◌, ◌-◌}
use Rattle.std.specs.Prelude.{◌^◌, ◌<◌, ◌≤◌, IsTrue, if◌then◌else◌, slice_get, slice_set, ◌≢◌, ◌++◌}
use Rattle.ob_types.specs.Marks.{Marks, change_between, packed, word_half, total_half}
use Rattle.ob_types.specs.declared.reply.Change.{Change}
use Rattle.ob_core.specs.World.{is_set, with_bit, without_bit, first_fault, CoreState, AreAmong, MakeUp}
use Rattle.ob_core.specs.declared.ask.Ask.{Ask}
use Rattle.ob_core.specs.declared.ask.Ask.TheVariants.{Charge, Discharge, Bit, Word, Total, Go}
use Rattle.ob_core.specs.declared.ask_fault.AskFault.{AskFault}
use Rattle.ob_core.specs.declared.ask_fault.AskFault.TheVariants.{UnknownLane, NoRoom, Owing, NotOwing, NotHeld}
use Rattle.ob_core.specs.declared.ask_fault.AskFault.TheVariants.{NotInside}
use Rattle.ob_core.specs.declared.lane.Lane.{Lane}
use Rattle.ob_core.specs.declared.lane_step.LaneStep.{LaneStep}
use Rattle.ob_core.specs.declared.lane_step.LaneStep.TheVariants.{Add, Subtract, SetBit, ClearBit, Load}

-- the number under which a fault is known in traces
abbrev pub number_of : AskFault → ℕ
number_of UnknownLane = 1
number_of NoRoom = 2
number_of Owing = 3
number_of NotOwing = 4
number_of NotHeld = 5
number_of NotInside = 6

-- a lane holds the bits of its mask with an index of 1 to 31
abbrev pub is_held : Lane → ℕ → Bool
is_held lane index = nat_lt 0 index && nat_lt index 32 && is_set lane.held index

-- the refusal of an ask by a lane, the first that holds, or none; a lane is never in the middle of a call, so it has none
-- to go on with
abbrev pub refusal_of : Lane → Ask → Option AskFault
refusal_of lane (Charge amount) = first_fault ((is_some lane.debt, Owing) ∷ (nat_lt lane.room amount, NoRoom) ∷ [])
refusal_of lane Discharge = first_fault ((is_none lane.debt, NotOwing) ∷ [])
refusal_of lane (Bit index writable) = first_fault ((not (is_held lane index), NotHeld) ∷ [])
refusal_of lane Word = None
refusal_of lane Total = None
refusal_of lane Go = Some NotInside

-- the refusal of an ask to a lane that may not be there, or none
abbrev pub refusal_at : Option Lane → Ask → Option AskFault
refusal_at None ask = Some UnknownLane
refusal_at (Some lane) ask = refusal_of lane ask

-- the total after a step
abbrev pub total_after : LaneStep → ℕ → ℕ
total_after (Add amount) total = total + amount
total_after (Subtract amount) total = total - amount
total_after (SetBit index) total = total
total_after (ClearBit index) total = total
total_after Load total = total

-- the word once the total is this: bit 0 is set if that is above the high mark
abbrev pub raised_word : Marks → ℕ → ℕ → ℕ
raised_word marks total word = if nat_lt marks.high total then with_bit word 0 else word

-- the word once the total is this: bit 0 is clear if that is below the low mark
abbrev pub lowered_word : Marks → ℕ → ℕ → ℕ
lowered_word marks total word = if nat_lt total marks.low then without_bit word 0 else word

-- the word after a step that found this total and this word: an add that passes the high mark sets bit 0, and a
-- subtract that comes below the low mark clears it
abbrev pub word_after : LaneStep → Marks → ℕ → ℕ → ℕ
word_after (Add amount) marks total word = raised_word marks (total + amount) word
word_after (Subtract amount) marks total word = lowered_word marks (total - amount) word
word_after (SetBit index) marks total word = with_bit word index
word_after (ClearBit index) marks total word = without_bit word index
word_after Load marks total word = word

-- the lane after its step
abbrev pub lane_after : LaneStep → Lane → Lane
lane_after (Add amount) lane = record lane { debt = Some amount }
lane_after (Subtract amount) lane = record lane { debt = None }
lane_after (SetBit index) lane = record lane { raised = with_bit lane.raised index }
lane_after (ClearBit index) lane = record lane { raised = without_bit lane.raised index }
lane_after Load lane = lane

-- which steps a lane may make
abbrev pub CanMake : Lane → LaneStep → Type 0
CanMake lane (Add amount) = (lane.debt ≡ None) × (0 < amount) × (amount ≤ lane.room)
CanMake lane (Subtract amount) = (lane.debt ≡ Some amount) × (0 < amount)
CanMake lane (SetBit index) = IsTrue (is_held lane index)
CanMake lane (ClearBit index) = IsTrue (is_held lane index)
CanMake lane Load = Unit {0}

-- the total can take the step: neither does it pass what a u32 holds, nor does it fall below 0
abbrev pub FitsTotal : LaneStep → ℕ → Type 0
FitsTotal (Add amount) total = total + amount < 2 ^ 32
FitsTotal (Subtract amount) total = amount ≤ total
FitsTotal (SetBit index) total = Unit {0}
FitsTotal (ClearBit index) total = Unit {0}
FitsTotal Load total = Unit {0}

-- the step names a bit of the word, if any
abbrev pub FitsWord : LaneStep → Type 0
FitsWord (Add amount) = Unit {0}
FitsWord (Subtract amount) = Unit {0}
FitsWord (SetBit index) = index < 32
FitsWord (ClearBit index) = index < 32
FitsWord Load = Unit {0}

-- the core state after the lane with this index has made a step
abbrev pub core_after_step : CoreState → ℕ → Lane → LaneStep → CoreState
core_after_step core index lane step = record {
  total = total_after step core.total;
  word = word_after step core.marks core.total core.word;
  marks = core.marks;
  lanes = slice_set core.lanes index (lane_after step lane);
}

-- the lane with this index may make the step, and that leads from the old core state to the new one
pub record IsCoreStep (old : CoreState) (index : ℕ) (step : LaneStep) (new : CoreState) : Type 0 where
  pub lane : Lane
  pub is_lane : slice_get old.lanes index ≡ Some lane
  pub allowed : CanMake lane step
  pub after : new ≡ core_after_step old index lane step

-- the value that a step finds: the word and the total in one number
abbrev pub value_found : CoreState → ℕ
value_found core = packed core.word core.total

-- the change of a step, read off the value that it found: the one between the word in it and the word that the step
-- leaves
abbrev pub change_found : LaneStep → Marks → ℕ → Option Change
change_found step marks found =
    change_between (word_half found) (word_after step marks (total_half found) (word_half found))

-- a step on the total leaves each bit of the word but bit 0, and a step on the word leaves the total; a load leaves both
abbrev pub LeavesRest : LaneStep → CoreState → CoreState → Type 0
LeavesRest (Add amount) old new = (index : ℕ) → index ≢ 0 → bit_at new.word index ≡ bit_at old.word index
LeavesRest (Subtract amount) old new = (index : ℕ) → index ≢ 0 → bit_at new.word index ≡ bit_at old.word index
LeavesRest (SetBit bit) old new = new.total ≡ old.total
LeavesRest (ClearBit bit) old new = new.total ≡ old.total
LeavesRest Load old new = (new.total ≡ old.total) × (new.word ≡ old.word)

-- a free lane has no debt
pub record IsFree (lane : Lane) : Type 0 where
  pub debt : lane.debt ≡ None

-- a spent lane: it is free, and has no room and no bits
abbrev pub spent_lane : Lane
spent_lane = record { room = 0; debt = None; held = 0; raised = 0 }

-- two free lanes have together the room and the bits of a third, each raised bit with the lane that holds it
pub record AreParts (whole first second : Lane) : Type 0 where
  pub whole_free : IsFree whole
  pub first_free : IsFree first
  pub second_free : IsFree second
  pub rooms : first.room + second.room ≡ whole.room
  pub held : MakeUp whole.held first.held second.held
  pub raised : MakeUp whole.raised first.raised second.raised
  pub first_among : AreAmong first.raised first.held
  pub second_among : AreAmong second.raised second.held

-- the lane with this index keeps one share of what it had, and gives the other to a new lane behind all others
pub record IsDivision (old : CoreState) (index : ℕ) (kept given : Lane) (new : CoreState) : Type 0 where
  pub lane : Lane
  pub is_lane : slice_get old.lanes index ≡ Some lane
  pub parts : AreParts lane kept given
  pub after : new ≡ record old { lanes = slice_set old.lanes index kept ++ given ∷ [] }

-- the lane with this index becomes one with another lane, which stays in its place as a spent one
pub record IsMerger (old : CoreState) (index other : ℕ) (both : Lane) (new : CoreState) : Type 0 where
  pub lane : Lane
  pub other_lane : Lane
  pub is_lane : slice_get old.lanes index ≡ Some lane
  pub is_other : slice_get old.lanes other ≡ Some other_lane
  pub apart : other ≢ index
  pub parts : AreParts both lane other_lane
  pub after : new ≡ record old { lanes = slice_set (slice_set old.lanes index both) other spent_lane }
