use Rattle.std.proofs.Common.{ℕ, ◌≤◌, map, sym, ap, subst}
use Rattle.ob_seq.specs.Pending.{times_settled}
use Rattle.ob_history.proofs.Histories.{command_of, settlements_of_legal}
use Rattle.ob_history.proofs.laws.a_history_settles_each_promise_once.Goals as goal

pub returns : goal.returns
returns c = record {
  once = λ settings records id legal.
      subst (λ (count : ℕ). count ≤ 1) (sym (ap (times_settled id) (settlements_of_legal settings records legal)))
      (c.no_promise_is_settled_twice.ensures.once settings (map command_of records) id);
}
