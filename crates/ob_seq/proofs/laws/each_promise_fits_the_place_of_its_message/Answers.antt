use Rattle.ob_seq.proofs.Words.{arith}
use Rattle.ob_seq.proofs.Rows.Limits.{closed_is_settled, rows_fit}
use Rattle.ob_seq.proofs.laws.each_promise_fits_the_place_of_its_message.Goals as goal

pub returns : goal.returns
returns c = grind (arith, rows_fit, closed_is_settled)
