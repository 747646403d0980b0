use Rattle.ob_seq.proofs.Words.{arith}
use Rattle.ob_seq.proofs.Rows.Along.{moments_of_same}
use Rattle.ob_seq.proofs.Rows.History.{rows_after_more}
use Rattle.ob_seq.proofs.Word.{marks_more, word_after_same}
use Rattle.ob_seq.proofs.laws.marks_that_are_set_leave_the_word.Goals as goal

pub returns : goal.returns
returns c = grind (arith, rows_after_more, word_after_same, moments_of_same, marks_more)
