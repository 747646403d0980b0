use Rattle.std.proofs.Common.{refl}
use Rattle.ob_history.specs.History.{next_record}
use Rattle.ob_history.proofs.Calls.{begins_after, bounded_after, legal_after, limit_after, settings_after}
use Rattle.ob_history.proofs.Histories.{accepted_with_next}
use Rattle.ob_history.proofs.laws.a_call_keeps_a_history_legal.Goals as goal

pub returns : goal.returns
returns c = record {
  legal = legal_after;
  bounded = bounded_after;
  settings = settings_after;
  limit = limit_after;
  begins = begins_after;
  accepted =
      λ history caller command. accepted_with_next history.settings history.records
      (next_record history caller command) refl;
}
