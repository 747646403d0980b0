use Rattle.std.proofs.Common.{◌≡◌, ◌+◌, ◌≤◌, length}
use Rattle.std.specs.List.{All}
use Rattle.ob_history.specs.History.{IsBeginning}
use Rattle.ob_shared.specs.Calls.{Handed, made_by}
use Rattle.ob_shared.proofs.locked.merged.Given as goal

abbrev pub invariant-loop-done : goal.invariant-loop-done
invariant-loop-done g l =
    record {
      parts : l.all.parts + length l.done-iterator.rest.items ≡ l.fn.rest.parts + length l.fn.dones.items;
      amount : l.all.amount + made_by l.done-iterator.rest.items ≡ l.fn.rest.amount + made_by l.fn.dones.items;
      within : l.all.parts ≤ g.L.Ledger.parts;
      same : l.publisher ≡ l.fn.publisher;
      saw : All (λ (one : Handed). IsBeginning one.sight.seen l.fn.publisher) l.done-iterator.rest.items
          → All (λ (one : Handed). IsBeginning one.sight.seen l.fn.publisher) l.fn.dones.items;
    }
