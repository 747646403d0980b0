use Rattle.std.specs.VecDeque.{deque_capacity, deque_len}
use Rattle.ob_seq.proofs.Words.{◌≡◌, ◌≤◌, ◌+◌, ◌++◌}
use Rattle.ob_seq.proofs.entries.move_to.Given as goal

abbrev pub invariant-loop-entry : goal.invariant-loop-entry
invariant-loop-entry l = record {
  items : l.moved.items ++ l.ring.items ≡ l.fn.ring.items;
  fits : deque_len l.moved + deque_len l.ring ≤ l.room;
  room : deque_capacity l.moved ≡ l.room;
}

abbrev pub decreases-loop-entry : goal.decreases-loop-entry
decreases-loop-entry l = deque_len l.ring
