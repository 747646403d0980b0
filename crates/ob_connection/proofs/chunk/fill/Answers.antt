use Rattle.ob_connection.proofs.Words.{arith}
use Rattle.ob_connection.proofs.Parts.{further, more_bytes, no_part}
use Rattle.ob_connection.proofs.chunk.fill.Goals as goal

pub extend_reserved-requires : goal.extend_reserved-requires
extend_reserved-requires c = grind (arith, more_bytes, no_part)

pub loop-part-preserved : goal.loop-part-preserved
loop-part-preserved c = grind (arith, more_bytes, no_part, further)
