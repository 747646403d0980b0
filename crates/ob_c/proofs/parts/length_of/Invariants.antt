use Rattle.std.proofs.Common.{◌≡◌, length, take}
use Rattle.ob_connection.specs.Obeying.{joined}
use Rattle.ob_c.specs.Calls.{slices_of}
use Rattle.ob_c.proofs.parts.length_of.Given as goal

abbrev pub invariant-loop-part : goal.invariant-loop-part
invariant-loop-part l = l.count ≡ length (joined (slices_of (take l.part-index l.fn.parts)))
