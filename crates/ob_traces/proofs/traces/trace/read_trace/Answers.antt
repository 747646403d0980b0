use Rattle.std.proofs.Common.{◌≡◌, ◌++◌, ◌∙◌, [], ◌∷◌, ap, refl, rules, sym}
use Rattle.ob_traces.specs.Traces.{trace_grammar}
use Rattle.ob_script.proofs.Places.{ends_at_nil, read_further}
use Rattle.ob_traces.proofs.traces.trace.read_trace.Goals as goal

pub loop-cursor-preserved : goal.loop-cursor-preserved
loop-cursor-preserved c =
    let inv = c.loop-cursor.invariant in
    let line = c.in-Ok.line in
    let further =
    read_further trace_grammar c.args.trace.items c.loop-cursor.cursor.count c.read.new.self.count line
    c.read.new.self.rest c.in-Ok.ensures.count (c.in-Ok.ensures.placed c.args.trace.items inv.stands refl) in
    let kept : c.push.new.self.items ≡ c.loop-cursor.lines.items ++ line ∷ [] = c.in_ok-push-in-Ok.ensures.items in
    record {
      kept = kept ∙ ap (λ before. before ++ line ∷ []) inv.kept ∙ sym further.0;
      few = rw kept (search rules);
      stands = further.1;
    }

pub returns-clause-lines : goal.returns-clause-lines
returns-clause-lines c =
    let inv = c.loop-cursor.invariant in
    let ends =
    ends_at_nil trace_grammar c.args.trace.items c.loop-cursor.cursor.count c.loop-cursor.cursor.rest inv.stands
    (sym c.is_at_end.ensures ∙ c.loop-cursor-test.false) in
    inv.kept ∙ ends.0

pub returns-clause-fault : goal.returns-clause-fault
returns-clause-fault c =
    let ends =
    ends_at_nil trace_grammar c.args.trace.items c.loop-cursor.cursor.count c.loop-cursor.cursor.rest
    c.loop-cursor.invariant.stands (sym c.is_at_end.ensures ∙ c.loop-cursor-test.false) in
    sym ends.1
