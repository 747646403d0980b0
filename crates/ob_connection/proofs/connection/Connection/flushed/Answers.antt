use Rattle.ob_connection.proofs.Words.{arith}
use Rattle.ob_seq.proofs.Inside.Held.{to_send_is}
use Rattle.ob_connection.proofs.connection.Connection.flushed.Goals as goal

pub returns : goal.returns
returns c = grind (arith, to_send_is)
