use Rattle.std.proofs.Common.{◌≡◌, ◌*◌, ◌≤◌, take}
use Rattle.std.specs.List.{sum_by}
use Rattle.ob_traces.proofs.summing.settlements.count_settlements.Given as goal

abbrev pub invariant-loop-line : goal.invariant-loop-line
invariant-loop-line l = record {
  success : l.all.success ≡ sum_by (λ line. line.settled.success) (take l.line-index l.lines);
  failed : l.all.failed ≡ sum_by (λ line. line.settled.failed) (take l.line-index l.lines);
  cancelled : l.all.cancelled ≡ sum_by (λ line. line.settled.cancelled) (take l.line-index l.lines);
  success_small : l.all.success ≤ 4294967295 * l.line-index;
  failed_small : l.all.failed ≤ 4294967295 * l.line-index;
  cancelled_small : l.all.cancelled ≤ 4294967295 * l.line-index;
}
