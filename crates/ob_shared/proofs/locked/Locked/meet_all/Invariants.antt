use Rattle.std.proofs.Common.{◌≡◌, ◌++◌, drop, map, take}
use Rattle.std.specs.List.{All}
use Rattle.ob_history.specs.History.{IsBeginning}
use Rattle.ob_shared.specs.Calls.{after_meeting, Handed}
use Rattle.ob_shared.proofs.locked.Locked.meet_all.Given as goal

abbrev pub invariant-loop-done : goal.invariant-loop-done
invariant-loop-done g l =
    record {
      met : l.dones ≡ map (after_meeting l.fn.self.records) (take l.done-index l.fn.dones)
          ++ drop l.done-index l.fn.dones;
      saw : All (λ (one : Handed). IsBeginning one.sight.seen l.fn.self.records) (take l.done-index l.fn.dones);
      same : l.self ≡ l.fn.self;
    }
