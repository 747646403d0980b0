use Rattle.ob_seq.proofs.Words.{◌≡◌, ◌+◌, drop, counted}
use Rattle.ob_seq.proofs.entries.segments.counted.Given as goal

abbrev pub invariant-loop-entry : goal.invariant-loop-entry
invariant-loop-entry l = l.size + counted (drop l.entry-index l.run) ≡ counted l.run
