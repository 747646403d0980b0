use Rattle.ob_lanes.proofs.KeptAccounts.{accounts_after_run}
use Rattle.ob_lanes.proofs.laws.every_run_keeps_the_accounts.Goals as goal

pub returns : goal.returns
returns c = record { kept = accounts_after_run }
