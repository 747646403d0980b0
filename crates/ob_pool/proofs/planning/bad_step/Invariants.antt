use Rattle.std.proofs.Common.{◌≡◌, length, take}
use Rattle.std.specs.List.{position_or_len}
use Rattle.ob_pool.specs.Inside.{commands_of}
use Rattle.ob_pool.proofs.PlannedRuns.{is_bad}
use Rattle.ob_pool.proofs.planning.bad_step.Given as goal

abbrev pub invariant-loop-run : goal.invariant-loop-run
invariant-loop-run l = record {
  step : l.step ≡ length (commands_of (take l.run-index l.runs));
  good : position_or_len is_bad (commands_of (take l.run-index l.runs)) ≡ l.step;
}
