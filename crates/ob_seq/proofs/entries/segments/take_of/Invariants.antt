use Rattle.std.specs.VecDeque.{deque_capacity, deque_len}
use Rattle.ob_seq.proofs.Words.{◌≡◌, ◌+◌, drop, counted}
use Rattle.ob_seq.proofs.entries.segments.take_of.Given as goal

abbrev pub invariant-loop : goal.invariant-loop
invariant-loop l = record {
  items : l.segment.items ≡ drop l.counter l.fn.segment.items;
  len : deque_len l.segment + l.counter ≡ deque_len l.fn.segment;
  capacity : deque_capacity l.segment ≡ deque_capacity l.fn.segment;
  counted : l.size + counted l.segment.items ≡ counted l.fn.segment.items;
}
