use Rattle.std.proofs.Common.{◌≡◌, length, drop}
use Rattle.ob_c.proofs.Gathered.{Laid}
use Rattle.ob_c.proofs.gather.lay.Given as goal

abbrev pub invariant-loop-message : goal.invariant-loop-message
invariant-loop-message l = record {
  laid : Laid l.connection (length l.fn.pieces) l.max_bytes l.count l.pieces l.room l.message-iterator;
  as_many : length l.pieces ≡ length l.fn.pieces;
  rest : drop l.count l.pieces ≡ drop l.count l.fn.pieces;
}
