use Rattle.ob_history.proofs.Histories.{legal_beginning}
use Rattle.ob_history.proofs.laws.a_beginning_of_a_history_is_legal.Goals as goal

pub returns : goal.returns
returns c = record { legal = legal_beginning }
