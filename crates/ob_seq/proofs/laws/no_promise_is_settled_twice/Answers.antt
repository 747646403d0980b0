use Rattle.ob_seq.specs.Answer.{buffer_limit}
use Rattle.ob_seq.proofs.Rows.Told.{outcome_kept_within, settled_once_within}
use Rattle.ob_seq.proofs.laws.no_promise_is_settled_twice.Goals as goal

pub returns : goal.returns
returns c = record { once = settled_once_within buffer_limit; kept = outcome_kept_within buffer_limit }
