use Rattle.ob_shared_connection.proofs.Staying.{bytes_stay}
use Rattle.ob_shared_connection.proofs.laws.what_was_gathered_stays_in_front.Goals as goal

pub returns : goal.returns
returns c = bytes_stay
