use Rattle.std.proofs.Common.{max, take, sym, ap, ◌∙◌}
use Rattle.ob_pool.specs.Drive.{room_of}
use Rattle.ob_pool.specs.Inside.{commands_of}
use Rattle.ob_pool.proofs.PlannedRuns.{greater, room_more, some_of}
use Rattle.ob_pool.proofs.planning.room_of.Goals as goal

pub loop-run-preserved : goal.loop-run-preserved
loop-run-preserved c =
    let runs = c.as_slice-runs.result.now in
    let before = room_of c.args.estimate c.args.task (commands_of (take c.loop-run.run-index runs)) in
    let some = some_of runs c.plan.inside.runs.items c.as_slice-runs.ensures.value c.plan.invariant.some in
    c.max-room.ensures ∙ greater c.loop-run.room c.charge_for.result
    ∙ ap (λ so_far. max so_far c.charge_for.result) c.loop-run.invariant
    ∙ ap (max before) c.charge_for.ensures
    ∙ sym (room_more c.args.estimate c.args.task runs c.loop-run.run-index c.run-item.result some c.loop-run-test.true
    c.run-item.is)
