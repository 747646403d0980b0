use Rattle.std.proofs.Common.{◌≡◌, take}
use Rattle.ob_traces.specs.Summary.{pending_behind}
use Rattle.ob_traces.proofs.summing.count.pending.Given as goal

abbrev pub invariant-loop-line : goal.invariant-loop-line
invariant-loop-line l = l.pending ≡ pending_behind (take l.line-index l.lines)
