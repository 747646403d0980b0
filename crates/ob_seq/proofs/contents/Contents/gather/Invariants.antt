use Rattle.ob_seq.proofs.Words.{◌≡◌, ◌++◌, length}
use Rattle.ob_seq.proofs.Inside.Fields.{left_of}
use Rattle.ob_seq.proofs.Inside.Gathered.{more_blocks}
use Rattle.ob_seq.proofs.contents.Contents.gather.Given as goal

abbrev pub invariant-loop-entry : goal.invariant-loop-entry
invariant-loop-entry l =
    more_blocks l.max_count 0 l.max_bytes (left_of l.self.line)
    ≡ l.gathered.items ++ more_blocks l.max_count (length l.gathered.items) l.room (left_of l.entry-iterator)
