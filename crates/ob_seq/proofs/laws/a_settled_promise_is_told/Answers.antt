use Rattle.ob_seq.specs.Answer.{buffer_limit}
use Rattle.ob_seq.proofs.Rows.Told.{accepted_told_within, told_within}
use Rattle.ob_seq.proofs.laws.a_settled_promise_is_told.Goals as goal

pub returns : goal.returns
returns c = record {
  told = λ settings commands id outcome. told_within buffer_limit settings id outcome commands;
  accepted = λ settings commands id outcome accepted.
      accepted_told_within buffer_limit settings id outcome commands accepted;
}
