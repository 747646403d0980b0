use Rattle.std.proofs.Common.{arith, refl}
use Rattle.std.proofs.lemmas.List.FromFn.{map-range_with_len_more}
use Rattle.ob_cli.specs.Drive.{plan_of}
use Rattle.ob_cli.proofs.drive.plans.make_plans.Goals as goal

pub loop-writer-preserved : goal.loop-writer-preserved
loop-writer-preserved c =
    let lines = c.args.lines.now in
    let writer = c.loop-writer.writer in
    let longer = map-range_with_len_more (plan_of lines) 0 writer writer (omega arith) in
    rw (c.in_ok-push.ensures.items, c.loop-writer.invariant, c.in_ok-plan.ensures, longer) refl
