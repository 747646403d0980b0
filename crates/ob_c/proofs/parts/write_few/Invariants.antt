use Rattle.std.proofs.Common.{◌≡◌, length, take}
use Rattle.ob_c.specs.Calls.{slices_of}
use Rattle.ob_c.proofs.parts.write_few.Given as goal

abbrev pub invariant-loop-at : goal.invariant-loop-at
invariant-loop-at l = record {
  room : length l.few ≡ 16;
  listed : take l.at l.few ≡ slices_of (take l.at l.parts);
}
