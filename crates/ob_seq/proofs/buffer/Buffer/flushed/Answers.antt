use Rattle.ob_seq.proofs.Words.{arith}
use Rattle.ob_seq.proofs.Inside.Held.{to_send_is}
use Rattle.ob_seq.proofs.buffer.Buffer.flushed.Goals as goal

pub returns : goal.returns
returns c = grind (arith, to_send_is)
