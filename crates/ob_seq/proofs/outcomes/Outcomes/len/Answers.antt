use Rattle.ob_seq.proofs.Words.{arith}
use Rattle.std.proofs.lemmas.List.FromFn.{length-map-range_with_len}
use Rattle.ob_seq.proofs.outcomes.Outcomes.len.Goals as goal

pub returns : goal.returns
returns c = grind (arith, length-map-range_with_len)
