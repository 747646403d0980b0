use Rattle.ob_connection.proofs.Words.{◌≡◌, ◌+◌, ◌++◌, length, take}
use Rattle.ob_connection.specs.Obeying.{joined}
use Rattle.ob_connection.proofs.chunk.fill.Given as goal

abbrev pub invariant-loop-part : goal.invariant-loop-part
invariant-loop-part l = record {
  items : l.rest.items ≡ l.fn.rest.items ++ joined (take l.part-index l.fn.parts);
  spare : l.rest.spare + length (joined (take l.part-index l.fn.parts)) ≡ l.fn.rest.spare;
}
