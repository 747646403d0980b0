use Rattle.ob_core.proofs.BitLemmas.{ClearsBit-without_bit}
use Rattle.ob_core.proofs.laws.steps.a_cleared_bit_leaves_the_others.Goals as goal

pub returns : goal.returns
returns c = record { bits = λ word index. ClearsBit-without_bit word index }
