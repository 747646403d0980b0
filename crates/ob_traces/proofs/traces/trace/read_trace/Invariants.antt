use Rattle.std.proofs.Common.{◌≡◌, ◌≤◌, take, length}
use Rattle.ob_script.specs.Inside.{StandsAt}
use Rattle.ob_script.specs.Reading.{script_lines}
use Rattle.ob_traces.specs.Traces.{trace_grammar}
use Rattle.ob_traces.proofs.traces.trace.read_trace.Given as goal

abbrev pub invariant-loop-cursor : goal.invariant-loop-cursor
invariant-loop-cursor l = record {
  kept : l.lines.items ≡ take l.cursor.count (script_lines trace_grammar l.fn.trace.items);
  few : length l.lines.items ≤ l.cursor.count;
  stands : StandsAt trace_grammar l.fn.trace.items l.cursor.count l.cursor.rest;
}

abbrev pub decreases-loop-cursor : goal.decreases-loop-cursor
decreases-loop-cursor l = length l.cursor.rest
