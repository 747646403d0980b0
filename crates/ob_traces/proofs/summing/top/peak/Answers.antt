use Rattle.std.proofs.Common.{ap}
use Rattle.std.proofs.lemmas.List.{get_or_default}
use Rattle.ob_traces.specs.Summary.{total_at}
use Rattle.ob_traces.specs.Traces.{bare}
use Rattle.ob_traces.specs.declared.traces.line.TraceLine.{TraceLine}
use Rattle.ob_traces.proofs.summing.top.peak.Goals as goal

pub loop-place-preserved : goal.loop-place-preserved
loop-place-preserved c =
    let lines = c.args.lines.now in
    c.raised-top.ensures (total_at lines) c.loop-place.invariant
    (ap (λ (line : TraceLine). line.total) (get_or_default lines c.loop-place.place _ bare c.loop-place-test.true))
