use Rattle.ob_lifecycle.proofs.Telling.{told_at_last, told_once}
use Rattle.ob_lifecycle.proofs.laws.the_end_is_told_once.Goals as goal

pub returns : goal.returns
returns c = record { once = told_once; told = told_at_last }
