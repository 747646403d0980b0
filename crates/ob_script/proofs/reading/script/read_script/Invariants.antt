use Rattle.std.proofs.Common.{◌<◌, ◌≤◌, length}
use Rattle.std.specs.Io.KnownBytes.{Consumes}
use Rattle.ob_script.specs.Reading.{greatest_script}
use Rattle.ob_script.proofs.reading.script.read_script.Given as goal

abbrev pub invariant-loop : goal.invariant-loop
invariant-loop g l = record {
  so_far : Consumes (g.R.Read.remaining l.fn.reader) (g.R.Read.remaining l.reader) l.script.items;
  within : length l.script.items ≤ greatest_script;
  room : 0 < length l.piece.items;
}
