use Rattle.std.proofs.Common.{◌≡◌, take}
use Rattle.ob_cli.specs.Drive.{plan_of}
use Rattle.ob_cli.proofs.drive.plans.plan.Given as goal

abbrev pub invariant-loop-line : goal.invariant-loop-line
invariant-loop-line l = l.plan ≡ plan_of (take l.line-index l.lines) l.writer
