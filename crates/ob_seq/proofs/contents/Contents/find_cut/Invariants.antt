use Rattle.ob_seq.proofs.Words.{◌≡◌, ◌≤◌, drop, length, blocks_left, pending_entries}
use Rattle.ob_seq.proofs.Inside.Gathered.{cut_from}
use Rattle.ob_seq.proofs.contents.Contents.find_cut.Given as goal

abbrev pub invariant-loop-entry : goal.invariant-loop-entry
invariant-loop-entry l = record {
  left : l.entry-iterator ≡ drop l.whole l.self.line;
  so_far : cut_from 0 l.n (blocks_left (pending_entries l.self.line))
      ≡ cut_from l.whole l.rest (blocks_left (pending_entries (drop l.whole l.self.line)));
  within : l.whole ≤ length l.self.line;
}
