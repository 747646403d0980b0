use Rattle.ob_history.specs.History.{record_of}
use Rattle.ob_history.proofs.Staying.{slice_get-longer, seen_now_is_seen, seen_longer}
use Rattle.ob_history.proofs.laws.what_is_of_a_history_stays_so.Goals as goal

pub returns : goal.returns
returns c = record {
  seen = seen_now_is_seen;
  look = seen_longer;
  receipt = λ records more receipt there. slice_get-longer records more receipt.place (record_of receipt) there;
}
