use Rattle.ob_core.proofs.BeginningLemmas.{AccountsHold-new}
use Rattle.ob_core.proofs.laws.accounts.a_new_world_has_its_accounts.Goals as goal

pub returns : goal.returns
returns c = record { new = λ marks starts none. AccountsHold-new marks starts none }
