use Rattle.ob_traces.specs.Summary.{total_at, IsTop}
use Rattle.ob_traces.proofs.summing.top.peak.Given as goal

abbrev pub invariant-loop-place : goal.invariant-loop-place
invariant-loop-place l = IsTop l.place (total_at l.lines) l.top
