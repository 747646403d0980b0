use Rattle.ob_seq.proofs.Words.{arith}
use Rattle.ob_seq.proofs.Word.{user_bit_shows}
use Rattle.ob_seq.proofs.buffer.Buffer.user_defined_writability.Goals as goal

pub returns : goal.returns
returns c commands stands = grind (arith, user_bit_shows)
