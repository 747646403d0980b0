-- How a world keeps its core, and what holds of each that was made, whatever turns it had. No public clause cites this
-- module.
use Rattle.std.specs.Prelude.{◌<◌, ◌≤◌, length}
use Rattle.ob_core.specs.World.{AccountsHold, CoreState, most_lanes, greatest_room, Grant}
use Rattle.ob_core.specs.declared.world.World.TheInside.{Inside}

-- the core that the fields of a world hold
abbrev pub core_of : Inside → CoreState
core_of inside = record {
  total = inside.total;
  word = inside.word;
  marks = inside.marks;
  lanes = inside.lanes.items;
}

-- there are some lanes, and not too many, whose accounts hold with what they were opened with; the low mark is at most
-- the high one, and the rooms keep to their limit
pub record IsSound (core : CoreState) : Type 0 where
  pub grant : Grant
  pub accounts : AccountsHold grant core
  pub ordered : grant.marks.low ≤ grant.marks.high
  pub rooms_fit : grant.room ≤ greatest_room
  pub some_lane : 0 < length core.lanes
  pub few_lanes : length core.lanes ≤ most_lanes
