use Rattle.ob_history.specs.History.{accepted_commands}
use Rattle.ob_history.proofs.Told.{legal_is_told}
use Rattle.ob_history.proofs.laws.a_history_tells_each_settled_promise.Goals as goal

pub returns : goal.returns
returns c = record {
  told = legal_is_told;
  unknown =
      λ settings records id. c.a_promise_is_unknown_past_the_writes.ensures.unknown settings
      (accepted_commands records) id;
}
