use Rattle.ob_seq.proofs.Words.{◌≡◌, ◌≤◌, ◌+◌, ◌-◌, drop, length, counted}
use Rattle.ob_seq.specs.Unsent.{LeavesRoom}
use Rattle.ob_seq.proofs.entries.Entries.take_first.Given as goal

abbrev pub invariant-loop-left : goal.invariant-loop-left
invariant-loop-left l = record {
  left : l.left ≤ l.count;
  within : l.left ≤ length l.self.items;
  items : l.self.items ≡ drop (l.count - l.left) l.fn.self.items;
  counted : l.size + counted l.self.items ≡ counted l.fn.self.items;
  room : LeavesRoom (l.count - l.left) l.fn.self.room l.fn.self.capacity l.self.room l.self.capacity;
}

abbrev pub decreases-loop-left : goal.decreases-loop-left
decreases-loop-left l = l.left
