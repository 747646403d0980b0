use Rattle.ob_seq.proofs.Words.{◌≡◌, ◌≤◌, ◌++◌, length, drop}
use Rattle.ob_seq.proofs.Inside.Fields.{left_of}
use Rattle.ob_seq.proofs.Inside.Gathered.{filled, more_blocks}
use Rattle.ob_seq.proofs.contents.Contents.gather_into.Given as goal

abbrev pub invariant-loop-entry : goal.invariant-loop-entry
invariant-loop-entry l = record {
  gathered : more_blocks (length l.fn.pieces) 0 l.max_bytes (left_of l.self.line)
      ≡ filled l.count l.pieces
      ++ more_blocks (length l.fn.pieces) (length (filled l.count l.pieces)) l.room (left_of l.entry-iterator);
  within : l.count ≤ length l.pieces;
  as_many : length l.pieces ≡ length l.fn.pieces;
  rest : drop l.count l.pieces ≡ drop l.count l.fn.pieces;
}
