use Rattle.std.proofs.Common.{◌≡◌, take, length}
use Rattle.ob_script.specs.Inside.{StandsAt, HasTraced}
use Rattle.ob_script.specs.Reading.{script_lines}
use Rattle.ob_script.specs.Tracing.{trace_of_first}
use Rattle.ob_script.proofs.tracing.trace.trace_lines.Given as goal

abbrev pub invariant-lines : goal.invariant-lines
invariant-lines g l =
    let grammar = g.I.Grammar.grammar in
    let texts = g.I.Interpreter.texts l.fn.interpreter in record {
      same : g.I.Interpreter.texts l.interpreter ≡ texts;
      done : g.I.Interpreter.HasDone l.interpreter (take l.cursor.count (script_lines grammar l.fn.script.items));
      traced : HasTraced (g.W.Write.contents l.fn.writer) (g.W.Write.contents l.writer) l.waiting.items
          (trace_of_first l.cursor.count (record { grammar = grammar; texts = texts }) l.fn.script.items);
      stands : StandsAt grammar l.fn.script.items l.cursor.count l.cursor.rest;
    }

abbrev pub decreases-lines : goal.decreases-lines
decreases-lines g l = length l.cursor.rest
