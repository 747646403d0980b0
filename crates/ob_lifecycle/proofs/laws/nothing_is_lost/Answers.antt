use Rattle.ob_lifecycle.proofs.Balance.{bytes_balanced, messages_balanced}
use Rattle.ob_lifecycle.proofs.Tallies.{count_like}
use Rattle.ob_lifecycle.proofs.laws.nothing_is_lost.Goals as goal

pub returns : goal.returns
returns c opened events = count_like _ _ (messages_balanced opened events) (bytes_balanced opened events)
