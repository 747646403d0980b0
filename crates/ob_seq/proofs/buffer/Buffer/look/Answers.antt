use Rattle.ob_seq.proofs.Words.{arith}
use Rattle.ob_seq.proofs.Words.{length-map}
use Rattle.ob_seq.proofs.Inside.Looked.{seen_is}
use Rattle.ob_seq.proofs.buffer.Buffer.look.Goals as goal

pub returns : goal.returns
returns c = grind (arith, length-map, seen_is)
