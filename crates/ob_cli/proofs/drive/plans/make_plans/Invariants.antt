use Rattle.std.proofs.Common.{◌≡◌, map}
use Rattle.std.specs.List.{range_with_len}
use Rattle.ob_cli.specs.Drive.{plan_of}
use Rattle.ob_cli.proofs.drive.plans.make_plans.Given as goal

abbrev pub invariant-loop-writer : goal.invariant-loop-writer
invariant-loop-writer l = l.plans.items ≡ map (plan_of l.lines) (range_with_len 0 l.writer)
