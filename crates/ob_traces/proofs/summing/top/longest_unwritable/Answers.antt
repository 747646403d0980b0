use Rattle.std.proofs.Common.{◌≡◌, ◌∙◌, ◌+◌, ap, arith, cond, not, sym, take}
use Rattle.std.specs.List.{suffix_len}
use Rattle.ob_traces.specs.Summary.{is_unwritable, unwritable_at}
use Rattle.ob_traces.proofs.SummaryLines.{unwritable_at-more}
use Rattle.ob_traces.proofs.summing.top.longest_unwritable.Goals as goal
use Rattle.ob_traces.proofs.summing.top.longest_unwritable.Goals.{then-line, else-line}

pub loop-place-preserved : goal.loop-place-preserved
loop-place-preserved c =
    let lines = c.args.lines.now in
    let place = c.loop-place.place in
    let inv = c.loop-place.invariant in
    let before = suffix_len is_unwritable (take place lines) in
    let more = unwritable_at-more lines place _ c.loop-place-test.true in
    elim c.if-line.branch [
      | then-line w ↦
          let same = w.together-is ∙ sym (more ∙ ap (λ b. cond (not b) (1 + before) 0) w.if-line.true) in record {
            top = c.raised-top.ensures (unwritable_at lines) inv.top same;
            together = same;
            few = omega (arith, w.together-is);
          }
      | else-line w ↦
          let one : c.if-line.together ≡ 1 + before = omega (arith, w.together-is, inv.together) in
          let same = one ∙ sym (more ∙ ap (λ b. cond (not b) (1 + before) 0) w.if-line.false) in record {
            top = c.raised-top.ensures (unwritable_at lines) inv.top same;
            together = same;
            few = omega (arith, w.together-is, inv.few);
          }
    ]
