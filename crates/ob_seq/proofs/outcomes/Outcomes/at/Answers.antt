use Rattle.ob_seq.proofs.Words.{arith}
use Rattle.std.proofs.lemmas.List.FromFn.{get_or-map-range_with_len, length-map-range_with_len}
use Rattle.ob_seq.proofs.outcomes.Outcomes.at.Goals as goal

pub returns : goal.returns
returns c other = grind (arith, length-map-range_with_len, get_or-map-range_with_len)
