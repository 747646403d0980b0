use Rattle.ob_connection.proofs.Words.{connection_limit}
use Rattle.ob_seq.proofs.Rows.Told.{settled_once_within, told_within}
use Rattle.ob_connection.proofs.laws.each_promise_is_settled_once_and_told.Goals as goal

pub returns : goal.returns
returns c = record {
  once = settled_once_within connection_limit;
  told = λ settings commands id outcome. told_within connection_limit settings id outcome commands;
}
