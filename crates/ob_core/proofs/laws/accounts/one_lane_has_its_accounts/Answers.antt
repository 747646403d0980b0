use Rattle.ob_core.proofs.BeginningLemmas.{AccountsHold-one_lane}
use Rattle.ob_core.proofs.laws.accounts.one_lane_has_its_accounts.Goals as goal

pub returns : goal.returns
returns c = record { new = λ grant mark. AccountsHold-one_lane grant mark }
