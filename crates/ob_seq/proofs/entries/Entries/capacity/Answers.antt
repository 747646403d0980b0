use Rattle.ob_seq.proofs.Words.{arith}
use Rattle.ob_seq.proofs.Laid.{holds_little_more, places_in_front}
use Rattle.ob_seq.proofs.entries.Entries.capacity.Goals as goal

pub overflow_add-result : goal.overflow_add-result
overflow_add-result c =
    let inside = c.self.inside in
    let front = c.self.invariant.front in
    omega (
      arith,
      places_in_front inside.first inside.more.items front,
      front.few,
      front.small,
      c.self.invariant.small,
      c.capacity_of.ensures,
      c.capacity.ensures,
    )

pub returns-clause-little_more : goal.returns-clause-little_more
returns-clause-little_more c = rw (← c.self.view_is) (holds_little_more c.self.inside c.self.invariant)
