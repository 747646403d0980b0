use Rattle.std.proofs.Common.{◌≡◌, take}
use Rattle.ob_c.specs.Calls.{slices_of}
use Rattle.ob_c.proofs.parts.listed.Given as goal

abbrev pub invariant-loop-part : goal.invariant-loop-part
invariant-loop-part l = l.list.items ≡ slices_of (take l.part-index l.fn.parts)
