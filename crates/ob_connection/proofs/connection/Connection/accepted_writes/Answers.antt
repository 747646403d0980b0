use Rattle.ob_connection.proofs.Words.{arith}
use Rattle.ob_connection.proofs.Obeyed.{ids_within}
use Rattle.ob_connection.proofs.connection.Connection.accepted_writes.Goals as goal

pub overflow_add-result : goal.overflow_add-result
overflow_add-result c = omega (arith, c.count.ensures, ids_within c.self.invariant)

pub returns-clause-within : goal.returns-clause-within
returns-clause-within c = omega (arith, c.count.ensures, ids_within c.self.invariant)
