use Rattle.std.proofs.Common.{◌≡◌, length, take, drop}
use Rattle.ob_c.specs.Calls.{AreAt}
use Rattle.ob_c.proofs.sends.lay.Given as goal

-- the first blocks are laid, and no other piece is changed
abbrev pub invariant-lays : goal.invariant-lays
invariant-lays l = record {
  laid : AreAt (take l.at l.blocks) (take l.at l.pieces);
  same : length l.pieces ≡ length l.fn.pieces;
  rest : drop l.at l.pieces ≡ drop l.at l.fn.pieces;
}
