use Rattle.std.proofs.Common.{bit_and, w32, ap, ◌∙◌}
use Rattle.std.specs.Int.{bit_not}
use Rattle.std.proofs.Math.Facts.{Fits-lt-pow}
use Rattle.std.proofs.lemmas.Nat.{one_shl}
use Rattle.ob_core.proofs.BitLemmas.{and-is-without_bit}
use Rattle.ob_core.proofs.bits.clear_bit.Goals as goal

pub returns : goal.returns
returns c =
    ap (λ bit. bit_and c.args.word (bit_not w32 bit)) (one_shl c.args.index 32 c.requires)
    ∙ and-is-without_bit w32 c.args.word c.args.index (Fits-lt-pow c.ranges.word) c.requires
