use Rattle.ob_lifecycle.proofs.Stalling.{named_at_last}
use Rattle.ob_lifecycle.proofs.laws.a_peer_that_takes_nothing_is_named.Goals as goal

pub returns : goal.returns
returns c = named_at_last
