use Rattle.std.proofs.Common.{take}
use Rattle.std.specs.List.{All}
use Rattle.ob_shared.specs.Calls.{StandsIn}
use Rattle.ob_shared.proofs.finish.first_foreign.Given as goal

abbrev pub invariant-loop-done : goal.invariant-loop-done
invariant-loop-done g l = All (StandsIn l.recorded.settings l.recorded.records) (take l.done-index l.dones)
