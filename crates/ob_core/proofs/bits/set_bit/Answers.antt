use Rattle.std.proofs.Common.{bit_or, ap, ◌∙◌}
use Rattle.std.proofs.lemmas.Nat.{one_shl}
use Rattle.ob_core.proofs.BitLemmas.{or-is-with_bit}
use Rattle.ob_core.proofs.bits.set_bit.Goals as goal

pub returns : goal.returns
returns c = ap (bit_or c.args.word) (one_shl c.args.index 32 c.requires) ∙ or-is-with_bit c.args.word c.args.index
