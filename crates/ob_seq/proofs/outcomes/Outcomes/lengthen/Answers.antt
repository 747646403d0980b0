use Rattle.ob_seq.proofs.Words.{arith}
use Rattle.std.proofs.lemmas.List.FromFn.{length-map-range_with_len}
use Rattle.ob_seq.proofs.Inside.Runs.{told_longer}
use Rattle.ob_seq.proofs.outcomes.Outcomes.lengthen.Goals as goal

pub invariant_of-self : goal.invariant_of-self
invariant_of-self c = grind (arith, length-map-range_with_len)

pub returns-clause-list : goal.returns-clause-list
returns-clause-list c = grind (arith, told_longer)
