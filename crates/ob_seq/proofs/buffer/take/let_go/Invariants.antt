use Rattle.ob_seq.proofs.Words.{◌≡◌, ◌≤◌, ◌+◌, ◌++◌, length, map, take, ended}
use Rattle.ob_seq.proofs.buffer.take.let_go.Given as goal

abbrev pub invariant-loop-place : goal.invariant-loop-place
invariant-loop-place l = record {
  list : l.gone.list
      ≡ l.fn.gone.list ++ map (ended l.outcome) (take l.place (l.contents.line ++ l.contents.unflushed));
  len : length l.gone.list ≡ length l.fn.gone.list + l.place;
  room : l.fn.gone.room ≤ l.gone.room + l.place;
}
