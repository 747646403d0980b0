use Rattle.ob_connection.proofs.Words.{arith}
use Rattle.ob_connection.proofs.Offered.{gathered_there}
use Rattle.ob_connection.proofs.connection.Connection.gather_into.Goals as goal

pub returns-clause-blocks : goal.returns-clause-blocks
returns-clause-blocks c commands stands =
    let there = gathered_there c.self.view_is in grind arith
