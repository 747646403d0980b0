use Rattle.ob_seq.proofs.Words.{arith}
use Rattle.ob_seq.proofs.Rows.Limits.{removal_within, total_within, writes_within}
use Rattle.ob_seq.proofs.laws.accepted_commands_keep_to_the_limits.Goals as goal

pub returns : goal.returns
returns c = grind (arith, total_within, writes_within, removal_within)
