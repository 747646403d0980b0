use Rattle.ob_core.proofs.BitLemmas.{SetsBit-with_bit}
use Rattle.ob_core.proofs.laws.steps.a_set_bit_leaves_the_others.Goals as goal

pub returns : goal.returns
returns c = record { bits = λ word index. SetsBit-with_bit word index }
