use Rattle.std.proofs.Common.{◌∙◌, sym}
use Rattle.ob_traces.proofs.SummaryLines.{pending_behind-bare, pending_behind-shown}
use Rattle.ob_traces.proofs.summing.count.pending.Goals as goal
use Rattle.ob_traces.proofs.summing.count.pending.Goals.{then-shows_bytes, else-shows_bytes}

pub loop-line-preserved : goal.loop-line-preserved
loop-line-preserved c =
    let lines = c.args.lines.now in
    let place = c.loop-line.line-index in
    let shows = sym c.shows_bytes.ensures in
    elim c.if-shows_bytes.branch [
      | then-shows_bytes w ↦ w.pending-is ∙ sym (pending_behind-shown lines place _ c.loop-line-test.true (shows ∙ w.if-shows_bytes.true))
      | else-shows_bytes w ↦
          w.pending-is ∙ c.loop-line.invariant
          ∙ sym (pending_behind-bare lines place _ c.loop-line-test.true (shows ∙ w.if-shows_bytes.false))
    ]
