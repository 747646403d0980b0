use Rattle.ob_connection.proofs.Words.{arith}
use Rattle.ob_connection.proofs.Parts.{more_bytes, no_part}
use Rattle.ob_connection.proofs.connection.copying.length_of_parts.Goals as goal

pub returns-in_default-clause-none : goal.returns-in_default-clause-none
returns-in_default-clause-none c none = grind (arith, more_bytes, no_part)

pub loop-part-preserved : goal.loop-part-preserved
loop-part-preserved c = grind (arith, more_bytes, no_part)
