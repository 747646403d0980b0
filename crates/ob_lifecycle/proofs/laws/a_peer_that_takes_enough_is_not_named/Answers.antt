use Rattle.ob_lifecycle.proofs.Naming.{took_little}
use Rattle.ob_lifecycle.proofs.laws.a_peer_that_takes_enough_is_not_named.Goals as goal

pub returns : goal.returns
returns c = took_little
