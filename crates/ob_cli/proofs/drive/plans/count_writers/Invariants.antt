use Rattle.std.proofs.Common.{◌≡◌, take}
use Rattle.ob_cli.specs.Drive.{writers_in}
use Rattle.ob_cli.proofs.drive.plans.count_writers.Given as goal

abbrev pub invariant-loop-line : goal.invariant-loop-line
invariant-loop-line l = l.count ≡ writers_in (take l.line-index l.lines)
