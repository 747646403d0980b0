use Rattle.std.proofs.Common.{◌≡◌, ◌∙◌, ◌++◌, ap, subst, sym, None, take}
use Rattle.ob_script.specs.Inside.{HasTraced}
use Rattle.ob_script.specs.Reading.{script_lines}
use Rattle.ob_script.specs.Tracing.{Language, Texts, trace_of_first}
use Rattle.ob_script.proofs.Places.{ends_at_nil, is_placed, read_further}
use Rattle.ob_script.proofs.Traced.{HasTraced-kept, HasTraced-more, trace_of_first-more, traced_whole}
use Rattle.ob_script.proofs.tracing.trace.trace_lines.Goals as goal

pub lines-preserved : goal.lines-preserved
lines-preserved g c =
    let grammar = g.I.Grammar.grammar in
    let language : Language _ = record { grammar = grammar; texts = g.I.Interpreter.texts c.args.interpreter.now } in
    let script = c.args.script.items in
    let n = c.lines.cursor.count in
    let inv = c.lines.invariant in
    let before = take n (script_lines grammar script) in
    let asked = c.in_ok-line.line in
    let done = c.in_ok-trace_line.ensures in
    let placed = is_placed c.in_ok-trace_line.field-0 _ (done.fits before inv.done) c.if-not-branch.false in
    let follows = c.in_ok-line.ensures.placed script inv.stands placed in
    let count = c.in_ok-line.ensures.count in
    let further =
    read_further grammar script n c.read.new.self.count asked c.read.new.self.rest count follows in
    let told : c.trace_line.new.waiting.items ≡ c.lines.waiting.items ++ language.texts.line_text before asked =
    done.text c.if-not-branch.false before inv.done
    ∙ ap (λ (texts : Texts _). c.lines.waiting.items ++ texts.line_text before asked) inv.same in
    let start = g.W.Write.contents c.args.writer.now in
    let grown =
    HasTraced-more start (g.W.Write.contents c.lines.writer) c.lines.waiting.items
    (trace_of_first n language script) (language.texts.line_text before asked) c.trace_line.new.waiting.items inv.traced
    told in
    let kept =
    HasTraced-kept start (g.W.Write.contents c.lines.writer)
    (g.W.Write.contents c.spill.new.writer) c.trace_line.new.waiting.items c.spill.new.waiting.items _ grown
    c.in_ok-spill.ensures.kept in
    record {
      same = done.texts ∙ inv.same;
      done = subst (g.I.Interpreter.HasDone c.trace_line.new.interpreter)
          (sym further.0)
          (done.done c.if-not-branch.false before inv.done);
      traced =
          subst (HasTraced start (g.W.Write.contents c.spill.new.writer) c.spill.new.waiting.items)
          (sym (ap (λ k. trace_of_first k language script) count ∙ trace_of_first-more n language script asked _ follows.0))
          kept;
      stands = further.1;
    }

pub returns-clause-lines : goal.returns-clause-lines
returns-clause-lines g c =
    let language : Language _ =
    record { grammar = g.I.Grammar.grammar; texts = g.I.Interpreter.texts c.args.interpreter.now } in
    let script = c.args.script.items in
    let n = c.lines.cursor.count in
    let inv = c.lines.invariant in
    let ends =
    ends_at_nil g.I.Grammar.grammar script n c.lines.cursor.rest inv.stands
    (sym c.is_at_end.ensures ∙ c.lines-test.false) in
    (traced_whole language script n None _ _ _ ends inv.traced, ends.1)

pub returns-clause-done : goal.returns-clause-done
returns-clause-done g c =
    let inv = c.lines.invariant in
    let ends =
    ends_at_nil g.I.Grammar.grammar c.args.script.items c.lines.cursor.count c.lines.cursor.rest inv.stands
    (sym c.is_at_end.ensures ∙ c.lines-test.false) in
    subst (g.I.Interpreter.HasDone c.lines.interpreter) ends.0 inv.done
