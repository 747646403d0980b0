use Rattle.std.proofs.Common.{rules, ◌≡◌, length, true, false, ap, ◌∙◌, arith}
use Rattle.ob_pool.specs.Drive.{bad_step}
use Rattle.ob_pool.specs.Inside.{commands_of}
use Rattle.ob_pool.proofs.PlannedRuns.{first_bad, good_more, is_bad, within_all, some_of}
use Rattle.ob_pool.proofs.planning.bad_step.Goals as goal

pub returns-then-not-is_planned : goal.returns-then-not-is_planned
returns-then-not-is_planned c =
    let runs = c.as_slice-runs.result.now in
    let some = some_of runs c.plan.inside.runs.items c.as_slice-runs.ensures.value c.plan.invariant.some in
    let bad : is_bad c.run-item.result.command ≡ true = search rules in
    first_bad runs c.loop-run.run-index c.loop-run.step c.run-item.result some c.loop-run-test.true c.run-item.is
    c.loop-run.invariant.step c.loop-run.invariant.good bad
    ∙ ap (λ kept. bad_step (commands_of kept)) c.as_slice-runs.ensures.value ∙ ap bad_step c.plan.view_is

pub overflow_add-step : goal.overflow_add-step
overflow_add-step c =
    let runs = c.as_slice-runs.result.now in
    omega (
      arith,
      within_all runs c.loop-run.run-index c.loop-run.step c.run-item.result c.loop-run-test.true c.run-item.is
          c.loop-run.invariant.step,
      ap (λ kept. length (commands_of kept)) c.as_slice-runs.ensures.value,
      ap length c.plan.view_is,
      c.len-all.ensures,
    )

pub loop-run-preserved : goal.loop-run-preserved
loop-run-preserved c =
    let planned : is_bad c.run-item.result.command ≡ false = search rules in
    let more = good_more c.as_slice-runs.result.now c.loop-run.run-index c.loop-run.step c.run-item.result
    c.loop-run-test.true c.run-item.is c.loop-run.invariant.step c.loop-run.invariant.good planned in
    record { step = more.0; good = more.1 }
