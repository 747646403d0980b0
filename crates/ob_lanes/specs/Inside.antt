-- What the fields of a lane and of the words say, what every call keeps of them, what a call has done that tries a step
-- until it succeeds, and how the facts of a seat are cut in two and put together. No public clause cites this module.
use Rattle.std.specs.Prelude.{ℕ, ◌+◌, ◌-◌, min, true, [], ◌∷◌, ◌++◌, bit_and, bit_or, bit_xor, None, ◌≡◌, ◌≤◌, false}
use Rattle.std.specs.Prelude.{Option, IfSome, List, ◌<◌, ◌^◌, slice_index}
use lib.ListN.{get_elem?}
use mathlib.Core.Option.{some}
use Rattle.atomic_table.specs.Table.{State}
use Rattle.atomic_table.specs.declared.shared.Seat.{Seat}
use Rattle.ob_core.specs.World.{is_set, Grant}
use Rattle.ob_core.specs.Step.{spent_lane, lane_after}
use Rattle.ob_core.specs.declared.lane.Lane.{Lane}
use Rattle.ob_core.specs.declared.lane_step.LaneStep.{LaneStep}
use Rattle.ob_lanes.specs.Calls.{AreReads}
use Rattle.ob_lanes.specs.Ruled.{Ruled, MayExpect, Knows, FactsSee, IsSameSeat}
use Rattle.ob_lanes.specs.Run.{first_facts, BeginsWithAll, one_step, RunningLane, WordsValue}
use Rattle.ob_lanes.specs.declared.facts.Facts.{Facts}
use Rattle.ob_lanes.specs.declared.facts.Made.{Made}
use Rattle.ob_lanes.specs.declared.facts.Move.{Move}
use Rattle.ob_lanes.specs.declared.running.Running.{Running}
use Rattle.ob_lanes.specs.declared.words.Words.TheInside.{Inside as WordsInside}

-- a lane without this room and these bits
abbrev pub kept_lane : ℕ → ℕ → Lane → Lane
kept_lane room bits lane = record {
  room = lane.room - room;
  debt = None;
  held = bit_xor lane.held bits;
  raised = bit_xor lane.raised (bit_and lane.raised bits);
}

-- a new lane with this room and these bits, raised or not
abbrev pub given_lane : ℕ → ℕ → Lane → Lane
given_lane room bits lane =
    record { room = room; debt = None; held = bits; raised = bit_and lane.raised bits }

-- a lane with the room and the bits of two, and no more room than there is
abbrev pub both_lanes : ℕ → Lane → Lane → Lane
both_lanes whole lane other = record {
  room = min (lane.room + other.room) whole;
  debt = None;
  held = bit_or lane.held other.held;
  raised = bit_or lane.raised other.raised;
}

-- what the seat that is cut knows then
abbrev pub kept_facts : ℕ → ℕ → Facts → Facts
kept_facts room bits facts =
    record facts { lane = kept_lane room bits facts.lane; splits = facts.splits + 1 }

-- what the new seat knows: it has seen what the other has, and is named by its splits
abbrev pub given_facts : ℕ → ℕ → Facts → Facts
given_facts room bits facts = record facts {
  lane = given_lane room bits facts.lane;
  made = [];
  name = facts.splits ∷ facts.name;
  splits = 0;
  taken = [];
}

-- what a seat knows that takes in another: it has seen what both have
abbrev pub both_facts : Facts → Facts → Facts
both_facts facts other = record facts {
  lane = both_lanes facts.grant.room facts.lane other.lane;
  seen = facts.seen ++ other.seen;
  taken = facts.taken ++ (record { name = other.name; made = other.made }) ∷ other.taken;
}

-- what the seat is left with that was taken in
abbrev pub spent_facts : Facts → Facts
spent_facts facts = record facts { lane = spent_lane; seen = []; taken = []; spent = true }

-- nothing is known
abbrev pub no_facts : Facts
no_facts = spent_facts (first_facts (record { marks = record { low = 0; high = 0 }; room = 0; bits = 0 }))

-- what a contract sees of a lane: what its seat knows
abbrev pub view_of : Running → RunningLane
view_of running = record {
  words = record { table_id = running.seat.table_id; grant = running.seat.me.0.grant };
  lane = running.seat.me.0.lane;
  made = running.seat.me.0.made;
  seen = running.seat.me.0.seen;
  name = running.seat.me.0.name;
  splits = running.seat.me.0.splits;
  taken = running.seat.me.0.taken;
}

-- the seat has no slot; room and bits are what it knows; its word was opened without bit 0, which is the mark's, and with
-- a low mark that is at most the high one; the lane was not taken in, this is its debt, and what its last step left is what
-- it may expect
pub record IsBetweenCalls (running : Running) (debt : Option ℕ) : Type 0 where
  pub no_slot : running.seat.me.1 ≡ []
  pub room : running.seat.me.0.lane.room ≡ running.room
  pub held : running.seat.me.0.lane.held ≡ running.held
  pub mark : is_set running.seat.me.0.grant.bits 0 ≡ false
  pub ordered : running.seat.me.0.grant.marks.low ≤ running.seat.me.0.grant.marks.high
  pub live : running.seat.me.0.spent ≡ false
  pub debt_is : running.seat.me.0.lane.debt ≡ debt
  pub last : IfSome running.last (MayExpect running.seat.me.0)

-- a seat has the slots that it had, and of what it knows all that no step of its lane changes is as it was: what the
-- word was opened with, its name, its splits, the lanes that it has taken in, and whether it was taken in itself
pub record KeepsRest (old new : Knows) : Type 0 where
  pub grant : new.0.grant ≡ old.0.grant
  pub name : new.0.name ≡ old.0.name
  pub splits : new.0.splits ≡ old.0.splits
  pub taken : new.0.taken ≡ old.0.taken
  pub spent : new.0.spent ≡ old.0.spent
  pub slots : new.1 ≡ old.1

-- the lane has made reads, and is as it was; it may expect this value, and a run that begins with all that it has seen
-- begins with all that it had seen
pub record IsTrying (old : Knows) (expected : ℕ) (now : Knows) : Type 0 where
  pub reads : List Made
  pub are_reads : AreReads reads
  pub made : now.0.made ≡ old.0.made ++ reads
  pub lane : now.0.lane ≡ old.0.lane
  pub rest : KeepsRest old now
  pub hears : (run : List Move) → BeginsWithAll run now.0.seen → BeginsWithAll run old.0.seen
  pub expects : MayExpect now.0 expected

-- the seat is the same, and its lane is trying
pub record SeatTries (old : Seat (Unit {0}) Facts) (expected : ℕ) (now : Seat (Unit {0}) Facts) : Type 0 where
  pub same : IsSameSeat old now
  pub trying : IsTrying old.me expected now.me

-- after some reads the lane has made the step, and found what it might expect
pub record HasTried (step : LaneStep) (old : Knows) (found : ℕ) (new : Knows) : Type 0 where
  pub reads : List Made
  pub are_reads : AreReads reads
  pub made : new.0.made ≡ old.0.made ++ reads ++ one_step step found
  pub lane : new.0.lane ≡ lane_after step old.0.lane
  pub rest : KeepsRest old new
  pub sees : FactsSee step found old.0 new.0
  pub expects : MayExpect old.0 found

-- what a contract sees of the words: which they are, and what they were opened with
abbrev pub words_of : WordsInside → WordsValue
words_of words = record { table_id = words.table.shared.table_id; grant = words.grant }

-- the table has sixteen words and no slot, and was told what it was opened with, in 32 bits each
pub record AreWords (words : WordsInside) : Type 0 where
  pub sixteen : words.table.shared.table_id.words ≡ 16
  pub no_slots : words.table.shared.table_id.slots ≡ 0
  pub key : words.table.shared.key ≡ words.grant
  pub room_fits : words.table.shared.key.room < 2 ^ 32
  pub bits_fit : words.table.shared.key.bits < 2 ^ 32

-- the word ended as this, in a state of which still holds what holds between any two steps, and in which the seat has its
-- facts
pub record IsEnd (grant : Grant) (seat : Seat (Unit {0}) Facts) (both : ℕ) : Type 0 where
  pub state : State (Unit {0}) Facts
  pub ruled : Ruled grant state
  pub at : get_elem? state.views seat.id ≡ some seat.me.0
  pub both_is : slice_index state.words 8 ≡ both
