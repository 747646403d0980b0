use Rattle.ob_connection.proofs.Words.{◌≡◌, length, take}
use Rattle.ob_connection.specs.Obeying.{joined}
use Rattle.ob_connection.proofs.connection.copying.length_of_parts.Given as goal

abbrev pub invariant-loop-part : goal.invariant-loop-part
invariant-loop-part l = l.count ≡ length (joined (take l.part-index l.fn.parts))
