use Rattle.std.proofs.Common.{◌≡◌, length, take}
use Rattle.ob_seq.proofs.Inside.Gathered.{filled}
use Rattle.ob_shared_connection.proofs.transport.sending.lay.Given as goal

-- the first blocks are laid
abbrev pub invariant-lays : goal.invariant-lays
invariant-lays l = record {
  laid : filled l.at l.pieces ≡ take l.at l.blocks;
  same : length l.pieces ≡ length l.fn.pieces;
}
