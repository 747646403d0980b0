-- What holds of the one word and of the facts of all seats between any two steps. What a step tells the lane that
-- makes it, and the one word after it.
use Rattle.std.specs.Prelude.{◌≡◌, ◌≢◌, ℕ, true, List, All, AllPairs, length, map, slice_index, false, ◌≤◌, ◌+◌, ◌-◌}
use Rattle.std.specs.Prelude.{◌<◌}
use lib.ListN.{get_elem?}
use mathlib.Core.Option.{some}
use Rattle.atomic_table.specs.Table.{State, Me, Step}
use Rattle.atomic_table.specs.declared.shared.Seat.{Seat}
use Rattle.ob_types.specs.Marks.{word_half, total_half, packed, Marks}
use Rattle.ob_core.specs.Step.{total_after, word_after, CanMake}
use Rattle.ob_core.specs.World.{AccountsHold, CoreState, Grant, one_lane, owed_by}
use Rattle.ob_core.specs.declared.lane_step.LaneStep.{LaneStep}
use Rattle.ob_core.specs.declared.lane_step.LaneStep.TheVariants.{Add, Subtract, Load}
use Rattle.ob_lanes.specs.Run.{BeginsWithAll, made_at, names_in, Leads, own_steps, facts_after, WordsValue, ShowsHeld}
use Rattle.ob_lanes.specs.Run.{Sees}
use Rattle.ob_lanes.specs.declared.facts.Ended.{Ended}
use Rattle.ob_lanes.specs.declared.facts.Facts.{Facts}
use Rattle.ob_lanes.specs.declared.facts.Move.{Move}

-- the core state that the ninth word and these facts are
abbrev pub core_of : Grant → List ℕ → List Facts → CoreState
core_of grant words views = record {
  total = total_half (slice_index words 8);
  word = word_half (slice_index words 8);
  marks = grant.marks;
  lanes = map (λ facts. facts.lane) views;
}

-- one run leads from the beginning to this core state; the own steps of each seat in it are those that it has made, it
-- names each, and it begins with each run that any seat has seen
pub record HasRun (grant : Grant) (core : CoreState) (views : List Facts) : Type 0 where
  pub moves : List Move
  pub leads : Leads (one_lane grant) moves core
  pub own : (seat : ℕ) → own_steps seat moves ≡ made_at views seat
  pub named : map (λ facts. facts.name) views ≡ names_in moves
  pub begins : All (λ facts. BeginsWithAll moves facts.seen) views

-- the lane that was taken in has its seat still, which is spent, with its name and what it made, and belongs to the seat
-- with this number
pub record HasEnded (views : List Facts) (owner : ℕ → ℕ) (seat : ℕ) (its : ℕ × Ended) : Type 0 where
  pub facts : Facts
  pub at : get_elem? views its.0 ≡ some facts
  pub spent : facts.spent ≡ true
  pub name : facts.name ≡ its.1.name
  pub made : facts.made ≡ its.1.made
  pub owned : owner its.0 ≡ seat

-- so have all lanes that a seat has taken in, no two the same one
pub record HaveEnded (views : List Facts) (owner : ℕ → ℕ) (seat : ℕ) (taken : List Ended) : Type 0 where
  pub placed : List (ℕ × Ended)
  pub all_of_them : map (λ its. its.1) placed ≡ taken
  pub apart : AllPairs (λ its others. its.0 ≢ others.0) placed
  pub ended : All (HasEnded views owner seat) placed

-- of sixteen words the ninth is the one word; each seat knows what it was opened with; word and facts are a core state
-- that the accounts hold of and that one run leads to; each lane that a seat has taken in has ended, and belongs to it alone
pub record Ruled (grant : Grant) (state : State (Unit {0}) Facts) : Type 0 where
  pub sixteen : length state.words ≡ 16
  pub one_grant : All (λ facts. facts.grant ≡ grant) state.views
  pub accounts : AccountsHold grant (core_of grant state.words state.views)
  pub run : HasRun grant (core_of grant state.words state.views) state.views
  pub owner : ℕ → ℕ
  pub taken : (seat : ℕ) (facts : Facts) → get_elem? state.views seat ≡ some facts
      → HaveEnded state.views owner seat facts.taken

-- both halves after a step that found this
abbrev pub packed_after : LaneStep → Marks → ℕ → ℕ
packed_after step marks found =
    packed (word_after step marks (total_half found) (word_half found)) (total_after step (total_half found))

-- what a seat knows, and the slots that it has
abbrev pub Knows : Type 0
Knows = Me (Unit {0}) Facts

-- the total that a lane finds is at least its debt, and at most that and all room outside the lane; the word fits 32
-- bits, and of the bits that the lane holds it shows exactly the raised ones
pub record PackedTold (facts : Facts) (found : ℕ) : Type 0 where
  pub no_less : owed_by facts.lane ≤ total_half found
  pub no_more : total_half found + facts.lane.room ≤ owed_by facts.lane + facts.grant.room
  pub fits : word_half found < 4294967296
  pub shows : ShowsHeld facts.lane (word_half found)

-- a lane may expect to find a total that is at least its debt, and at most that and all room outside the lane
pub record MayExpect (facts : Facts) (found : ℕ) : Type 0 where
  pub no_less : owed_by facts.lane ≤ total_half found
  pub no_more : total_half found + facts.lane.room ≤ owed_by facts.lane + facts.grant.room

-- a seat has made this step, and sees the run up to it
abbrev pub FactsSee : LaneStep → ℕ → Facts → Facts → Type 0
FactsSee step found old new = Sees new.grant old.seen step found new.name new.lane new.made new.seen

-- the step leaves the lane as the core says, is one more of its own steps, and the last of a run that it sees then; and
-- it tells what the value found tells
pub record Told (step : LaneStep) (old : Knows) (found : ℕ) (new : Knows) : Type 0 where
  pub after : new.0 ≡ facts_after step found new.0.seen old.0
  pub slots : new.1 ≡ old.1
  pub sees : FactsSee step found old.0 new.0
  pub tells : PackedTold old.0 found

-- an exchange that finds what it expects is the step, and one that finds anything else is a read
pub record ToldTry (step : LaneStep) (expected : ℕ) (old : Knows) (found : ℕ) (new : Knows) : Type 0 where
  pub made : found ≡ expected → Told step old found new
  pub read : found ≢ expected → Told Load old found new

-- an exchange for a greater total adds what that is more
abbrev pub ToldAdding : Step (Unit {0}) → Knows → ℕ → Knows → Type 0
ToldAdding by old found new = ToldTry (Add (total_half by.second - total_half by.first)) by.first old found new

-- an exchange for a lesser total subtracts what that is less
abbrev pub ToldSubtracting : Step (Unit {0}) → Knows → ℕ → Knows → Type 0
ToldSubtracting by old found new = ToldTry (Subtract (total_half by.first - total_half by.second)) by.first old found new

-- a step of a bit tells so of the bit that its mask is of
pub record ToldOfBit (bit_step : ℕ → LaneStep) (mask_of : ℕ → ℕ) (by : Step (Unit {0})) (old : Knows) (found : ℕ)
    (new : Knows) : Type 0 where
  pub index : ℕ
  pub within : index < 32
  pub mask : by.first ≡ mask_of index
  pub told : Told (bit_step index) old found new

-- however much of the whole room is owed, that is not above the high mark
abbrev pub IsCalm : Grant → Type 0
IsCalm grant = grant.room ≤ grant.marks.high

-- the seat is of this word, knows what it was opened with, and was not taken in
abbrev pub IsSeatOf : WordsValue → Seat (Unit {0}) Facts → Type 0
IsSeatOf words seat =
    (seat.table_id ≡ words.table_id)
    × (seat.me.0.grant ≡ words.grant)
    × (seat.me.0.spent ≡ false)

-- the seat is the same, whatever it knows
abbrev pub IsSameSeat : Seat (Unit {0}) Facts → Seat (Unit {0}) Facts → Type 0
IsSameSeat old new = (new.table_id ≡ old.table_id) × (new.id ≡ old.id)

-- the seat is of this word, and its lane may make the step
pub record MayMake (words : WordsValue) (seat : Seat (Unit {0}) Facts) (step : LaneStep) : Type 0 where
  pub of : IsSeatOf words seat
  pub may : CanMake seat.me.0.lane step

-- the seat is the same, and its lane has made the step, which told it what it found
pub record Makes (step : LaneStep) (old : Seat (Unit {0}) Facts) (found : ℕ) (new : Seat (Unit {0}) Facts)
    : Type 0 where
  pub same : IsSameSeat old new
  pub told : Told step old.me found new.me

-- the seat is the same, and its lane has made the step if the exchange found what it expected, and a read otherwise
pub record MakesOrReads (step : LaneStep) (expected : ℕ) (old : Seat (Unit {0}) Facts) (found : ℕ)
    (new : Seat (Unit {0}) Facts) : Type 0 where
  pub same : IsSameSeat old new
  pub told : ToldTry step expected old.me found new.me
