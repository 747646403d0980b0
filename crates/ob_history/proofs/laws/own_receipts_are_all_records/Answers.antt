use Rattle.ob_history.proofs.Own.{all_are_held}
use Rattle.ob_history.proofs.laws.own_receipts_are_all_records.Goals as goal

pub returns : goal.returns
returns c = record { all = all_are_held }
