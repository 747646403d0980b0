use Rattle.ob_seq.proofs.Words.{◌≡◌, List, next_flushed, times, whole, Outcome}
use Rattle.ob_seq.proofs.contents.Contents.flush_one_by_one.Given as goal

abbrev pub invariant-loop : goal.invariant-loop
invariant-loop l = ((gone : List Outcome) → whole gone l.self ≡ times l.counter next_flushed (whole gone l.fn.self))
    × (l.self.room ≡ l.fn.self.room) × (l.self.capacity ≡ l.fn.self.capacity)
