use Rattle.std.proofs.Common.{◌≡◌, length, map, take}
use Rattle.ob_core.specs.World.{most_lanes}
use Rattle.ob_pool.specs.Drive.{room_of, rooms_of}
use Rattle.ob_pool.proofs.planning.with_rooms.Given as goal

abbrev pub invariant-loop-plan : goal.invariant-loop-plan
invariant-loop-plan l = record {
  long : length l.rooms ≡ most_lanes;
  writer : l.writer ≡ l.plan-index;
  each : take l.plan-index l.rooms ≡ map (room_of l.estimate l.task) (take l.plan-index l.plan-items);
  all : l.all ≡ rooms_of l.estimate l.task (take l.plan-index l.plan-items);
}
