use Rattle.std.proofs.Common.{◌≡◌, take}
use Rattle.ob_pool.specs.Drive.{room_of}
use Rattle.ob_pool.specs.Inside.{commands_of}
use Rattle.ob_pool.proofs.planning.room_of.Given as goal

abbrev pub invariant-loop-run : goal.invariant-loop-run
invariant-loop-run l = l.room ≡ room_of l.estimate l.task (commands_of (take l.run-index l.runs))
