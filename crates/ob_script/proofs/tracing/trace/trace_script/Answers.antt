use Rattle.std.proofs.Common.{◌∙◌, ◌++◌, ap, sym, subst, List, length}
use Rattle.ob_script.specs.Inside.{HasTraced}
use Rattle.ob_script.specs.Reading.{script_lines}
use Rattle.ob_script.specs.Tracing.{Language, Texts, trace_of_first, trace_of_lines}
use Rattle.ob_script.proofs.Traced.{all_lines, trace_of-whole, HasTraced-more}
use Rattle.ob_script.proofs.tracing.trace.trace_script.Goals as goal

pub returns-in-Err : goal.returns-in-Err
returns-in-Err g c =
    let language : Language _ = record { grammar = g.I.Grammar.grammar; texts = g.I.Interpreter.texts c.args.interpreter.now } in
    let script = c.args.script.items in
    let count = length (script_lines language.grammar script) in
    let start = g.W.Write.contents c.args.writer.now in
    let held = g.W.Write.contents c.trace_lines.new.writer in
    let lines = c.in_ok-trace_lines.ensures.lines in (
      count,
      subst (λ (waits : List _). HasTraced start held waits (trace_of_first count language script))
          (sym c.in-Err.ensures.kept)
          (subst (HasTraced start held c.trace_lines.new.waiting.items) (sym (all_lines language script)) lines.0),
    )

pub returns-in-Ok : goal.returns-in-Ok
returns-in-Ok g c =
    let language : Language _ = record { grammar = g.I.Grammar.grammar; texts = g.I.Interpreter.texts c.args.interpreter.now } in
    let script = c.args.script.items in
    let start = g.W.Write.contents c.args.writer.now in
    let held = g.W.Write.contents c.trace_lines.new.writer in
    let waits = c.trace_lines.new.waiting.items in
    let ended = c.in_ok-trace_lines.ensures in
    let told = c.in-Ok.ensures.text (script_lines language.grammar script) ended.done
    ∙ ap (λ (texts : Texts _). waits ++ texts.last_text (script_lines language.grammar script)) ended.texts in
    let grown =
    HasTraced-more start held waits (trace_of_lines language script) _ c.trace_last.new.waiting.items ended.lines.0
    told in (
      subst (HasTraced start held c.trace_last.new.waiting.items) (trace_of-whole language script ended.lines.1) grown,
      ended.lines.1,
    )
