-- The bits of a word: a word is a number of any width, and its lowest bit has index 0. The core state: the two halves
-- of the one word, the marks, and the lanes; how a world begins, within which limits, and why one does not. The
-- accounts: what the two halves of the word, the lanes and what they were opened with say of one another.
use Rattle.std.specs.Int.{bit_at}
use Rattle.std.specs.List.{list_any}
use Rattle.std.specs.Prelude.{◌≡◌, ◌≢◌, ℕ, ◌+◌, ◌-◌, ◌^◌, ◌≤◌, Bool, ◌==◌, if◌then◌else◌, List, Option, [], ◌∷◌, Some}
use Rattle.std.specs.Prelude.{None, false, not, ◌||◌, nat_lt, length, map, sum_by, bit_and, bit_or, unwrap_or, ◌<◌}
use Rattle.std.specs.Prelude.{true, All}
use Rattle.ob_types.specs.Marks.{Marks}
use Rattle.ob_types.specs.declared.reply.Change.{Change}
use Rattle.ob_core.specs.declared.lane.Lane.{Lane}
use Rattle.ob_core.specs.declared.lane_start.LaneStart.{LaneStart}
use Rattle.ob_core.specs.declared.world_fault.WorldFault.{WorldFault}
use Rattle.ob_core.specs.declared.world_fault.WorldFault.TheVariants.{BadCount, TooMuchRoom, BitsTwice, NoMemory}

-- whether the bit with this index is set
abbrev pub is_set : ℕ → ℕ → Bool
is_set word index = bit_at word index == 1

-- the word with that bit set: what the bit counts is added, unless it is there
abbrev pub with_bit : ℕ → ℕ → ℕ
with_bit word index = if is_set word index then word else word + 2 ^ index

-- the word with that bit cleared: what the bit counts is taken off, if it is there
abbrev pub without_bit : ℕ → ℕ → ℕ
without_bit word index = if is_set word index then word - 2 ^ index else word

-- a new word has this value of this bit, and each other bit as the old word has it
pub record PutsBit (value old index new : ℕ) : Type 0 where
  pub here : bit_at new index ≡ value
  pub others : (other : ℕ) → other ≢ index → bit_at new other ≡ bit_at old other

-- a new word has this bit set, and each other bit as the old word has it
abbrev pub SetsBit : ℕ → ℕ → ℕ → Type 0
SetsBit old index new = PutsBit 1 old index new

-- a new word has this bit clear, and each other bit as the old word has it
abbrev pub ClearsBit : ℕ → ℕ → ℕ → Type 0
ClearsBit old index new = PutsBit 0 old index new

-- each bit of the first mask is set in the second
abbrev pub AreAmong : ℕ → ℕ → Type 0
AreAmong bits mask = (index : ℕ) → bit_at bits index ≤ bit_at mask index

-- of each bit, two masks have together what the whole has
abbrev pub MakeUp : ℕ → ℕ → ℕ → Type 0
MakeUp whole first second = (index : ℕ) → bit_at first index + bit_at second index ≡ bit_at whole index

-- a total, a word, the marks that the total is held against, and the lanes in the order of their numbers
pub record CoreState : Type 0 where
  pub total : ℕ
  pub word : ℕ
  pub marks : Marks
  pub lanes : List Lane

-- a core state, with the change of the last turn
pub record WorldState : Type 0 where
  pub core : CoreState
  pub last_change : Option Change

-- the most lanes of a world
abbrev pub most_lanes : ℕ
most_lanes = 64

-- the most bytes that all lanes of a world may owe together
abbrev pub greatest_room : ℕ
greatest_room = 4294967295

-- the first fault, in the order of the list, whose condition holds, or none
abbrev pub first_fault : {F : Type 0} → List (Bool × F) → Option F
first_fault [] = None
first_fault (asked ∷ later) = if asked.0 then Some asked.1 else first_fault later

-- a world has some lanes, and not too many
abbrev pub is_bad_count : List LaneStart → Bool
is_bad_count starts = (length starts == 0) || nat_lt most_lanes (length starts)

-- the rooms of the lanes together
abbrev pub room_of : List LaneStart → ℕ
room_of starts = sum_by (λ start. start.room) starts

-- two masks have a bit in common
abbrev pub share_a_bit : ℕ → ℕ → Bool
share_a_bit mask other = not (bit_and mask other == 0)

-- some two of the masks have a bit in common
abbrev pub any_overlap : List ℕ → Bool
any_overlap [] = false
any_overlap (mask ∷ masks) = list_any (share_a_bit mask) masks || any_overlap masks

-- the mask of all bits that the lanes hold
abbrev pub bits_of : List LaneStart → ℕ
bits_of [] = 0
bits_of (start ∷ starts) = bit_or start.bits (bits_of starts)

-- the masks of those who hold bits: the mark, which holds bit 0, and the lanes
abbrev pub holders_of : List ℕ → List ℕ
holders_of masks = 1 ∷ masks

-- the first fault of these lanes, or none
abbrev pub start_fault : List LaneStart → Option WorldFault
start_fault starts =
    first_fault (
    (is_bad_count starts, BadCount)
    ∷ (nat_lt greatest_room (room_of starts), TooMuchRoom)
    ∷ (any_overlap (holders_of (map (λ start. start.bits) starts)), BitsTwice)
    ∷ [])

-- what lanes are opened with: the marks, the most that all of them may owe together, and the bits that they may hold
pub record Grant : Type 0 where
  pub marks : Marks
  pub room : ℕ
  pub bits : ℕ

-- what these lanes are opened with
abbrev pub grant_of : Marks → List LaneStart → Grant
grant_of marks starts = record { marks = marks; room = room_of starts; bits = bits_of starts }

-- a lane that begins owes nothing and has set no bit
abbrev pub new_lane : LaneStart → Lane
new_lane start = record { room = start.room; debt = None; held = start.bits; raised = 0 }

-- a core state begins with a total of 0 and a word of 0
abbrev pub new_core : Marks → List LaneStart → CoreState
new_core marks starts = record { total = 0; word = 0; marks = marks; lanes = map new_lane starts }

-- lanes begin as one, with the whole room and all bits
abbrev pub one_lane : Grant → CoreState
one_lane grant = new_core grant.marks (record { room = grant.room; bits = grant.bits } ∷ [])

-- a world that begins has changed nothing
abbrev pub new_world : Marks → List LaneStart → WorldState
new_world marks starts = record { core = new_core marks starts; last_change = None }

-- the number under which a fault is known
abbrev pub number_of : WorldFault → ℕ
number_of BadCount = 1
number_of TooMuchRoom = 2
number_of BitsTwice = 3
number_of NoMemory = 4

-- the bytes that a lane owes, 0 if it has no debt
abbrev pub owed_by : Lane → ℕ
owed_by lane = unwrap_or lane.debt 0

-- the bytes that the lanes owe together
abbrev pub sum_owed : List Lane → ℕ
sum_owed lanes = sum_by owed_by lanes

-- the rooms of the lanes together
abbrev pub sum_of_rooms : List Lane → ℕ
sum_of_rooms lanes = sum_by (λ lane. lane.room) lanes

-- how many lanes hold the bit with this index
abbrev pub holders : List Lane → ℕ → ℕ
holders lanes index = sum_by (λ lane. bit_at lane.held index) lanes

-- how many lanes have raised the bit with this index
abbrev pub raisers : List Lane → ℕ → ℕ
raisers lanes index = sum_by (λ lane. bit_at lane.raised index) lanes

-- a lane owes at most its room
abbrev pub IsWithinRoom : Lane → Type 0
IsWithinRoom lane = owed_by lane ≤ lane.room

-- the total is the sum owed, each lane is within its room, and the rooms add up to the whole
pub record BytesAgree (grant : Grant) (core : CoreState) : Type 0 where
  pub marks : core.marks ≡ grant.marks
  pub total : core.total ≡ sum_owed core.lanes
  pub rooms : sum_of_rooms core.lanes ≡ grant.room
  pub within : All IsWithinRoom core.lanes

-- bit 0 is set while the total is above the high mark and not below the low one, and clear while it is below the low
-- mark and not above the high one; if the low mark is at most the high one, nothing is below the one and above the
-- other
pub record MarkAgrees (core : CoreState) : Type 0 where
  pub above : core.marks.high < core.total → core.marks.low ≤ core.total → is_set core.word 0 ≡ true
  pub below : core.total < core.marks.low → core.total ≤ core.marks.high → is_set core.word 0 ≡ false

-- each bit is held by at most one lane, and only if the grant has it, which leaves bit 0 to the mark; a lane raises
-- only what it holds, and but for bit 0 the word shows exactly what some lane has raised
pub record BitsAgree (grant : Grant) (core : CoreState) : Type 0 where
  pub mark : is_set grant.bits 0 ≡ false
  pub held : (index : ℕ) → holders core.lanes index ≤ bit_at grant.bits index
  pub among : All (λ lane. AreAmong lane.raised lane.held) core.lanes
  pub shown : (index : ℕ) → 0 < index → raisers core.lanes index ≡ bit_at core.word index

-- the accounts of a core state with what it was opened with: those of the bytes, the mark and the bits
pub record AccountsHold (grant : Grant) (core : CoreState) : Type 0 where
  pub bytes : BytesAgree grant core
  pub mark : MarkAgrees core
  pub bits : BitsAgree grant core
