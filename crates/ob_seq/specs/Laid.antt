-- How entries lie in memory. No public clause cites this module.
use Rattle.std.specs.Prelude.{◌≡◌, ◌≤◌, ◌<◌, ◌+◌, ◌-◌, ℕ, List, [], ◌∷◌, ◌++◌, length, take, slice_index_or}
use Rattle.std.specs.VecDeque.{deque_capacity, deque_items, deque_len}
use Rattle.std_alloc.specs.declared.vec.deque.VecDeque.{VecDeque}
use Rattle.std.specs.Global.{Global}
use Rattle.ob_seq.specs.Unsent.{most_left_behind}
use Rattle.ob_seq.specs.declared.entry.Entry.{Entry}
use Rattle.ob_seq.specs.declared.entries.Entries.TheInside.{Inside}

-- entries, oldest first, how many there may be before memory is taken for one more, and for how many memory is held
pub record Laid : Type 0 where
  pub items : List Entry
  pub room : ℕ
  pub capacity : ℕ

-- how many entries a segment has
abbrev pub segment_room : ℕ
segment_room = 128

-- how many segments lie before the last at most: no memory has as many
abbrev pub most_segments : ℕ
most_segments = 281474976710656

module _ {Z : Type 0} where
  -- the entries of segments, one segment behind the other
  abbrev pub entries_of : List (VecDeque Entry Z) → List Entry
  entries_of [] = []
  entries_of (segment ∷ segments) = deque_items segment ++ entries_of segments

  -- for how many entries segments have memory
  abbrev pub capacity_of : List (VecDeque Entry Z) → ℕ
  capacity_of [] = 0
  capacity_of (segment ∷ segments) = deque_capacity segment + capacity_of segments

  -- segments of 128 entries each, and without another place
  abbrev pub AreFull : List (VecDeque Entry Z) → Type 0
  AreFull [] = Unit {0}
  AreFull (segment ∷ segments) =
      ((deque_len segment ≡ segment_room) × (deque_capacity segment ≡ segment_room)) × AreFull segments

  -- the first gives its entries away, and was no larger than a ring gets; without any it has no memory, and none is behind it.
  -- Those behind it are full
  pub record AreInFront (first : VecDeque Entry Z) (segments : List (VecDeque Entry Z)) : Type 0 where
    pub full : AreFull segments
    pub none : deque_len first ≡ 0 → (length segments ≡ 0) × (deque_capacity first ≡ 0)
    pub small : deque_capacity first ≤ most_left_behind
    pub few : length segments ≤ most_segments

  -- what was last stands behind the others, and an empty one with room for 128 is last; there were not too many
  pub record IsAdded (last : VecDeque Entry Z) (old : List (VecDeque Entry Z)) (empty : VecDeque Entry Z)
      (new : List (VecDeque Entry Z)) : Type 0 where
    pub behind : new ≡ old ++ last ∷ []
    pub none : deque_items empty ≡ []
    pub room : deque_capacity empty ≡ segment_room
    pub few : length old < most_segments

  -- the entry at a place of all stands at this one of this segment
  pub record IsFoundIn (segments : List (VecDeque Entry Z)) (place index rest : ℕ) : Type 0 where
    pub within : index < length segments
    pub inner : (segment : VecDeque Entry Z) → segment ≡ slice_index_or segments index segment → rest < deque_len segment
    pub before : place ≡ length (entries_of (take index segments)) + rest

-- the segments in front of the last, the oldest first
abbrev pub fronts : Inside → List (VecDeque Entry Global)
fronts inside = inside.first ∷ inside.more.items

-- all entries, those of the segments in front and then those of the last
abbrev pub items_of : Inside → List Entry
items_of inside = entries_of (fronts inside) ++ inside.last.items

-- a place to spare is one in the last segment
abbrev pub laid_of : Inside → Laid
laid_of inside = record {
  items = items_of inside;
  room = length (items_of inside) + (deque_capacity inside.last - deque_len inside.last);
  capacity = capacity_of (fronts inside) + deque_capacity inside.last;
}

-- behind some in front the last has room for 128, and by itself it is no larger than a ring gets
pub record AreLaid (inside : Inside) : Type 0 where
  pub front : AreInFront inside.first inside.more.items
  pub room : 0 < deque_len inside.first → deque_capacity inside.last ≡ segment_room
  pub small : deque_capacity inside.last ≤ most_left_behind
