use Rattle.std.proofs.Common.{take}
use Rattle.std.specs.List.{All}
use Rattle.ob_history.specs.Inside.{IsReplay}
use Rattle.ob_history.specs.History.{IsSeenIn}
use Rattle.ob_history.proofs.recorded.Recorded.first_foreign_seen.Given as goal

abbrev pub invariant-loop-index : goal.invariant-loop-index
invariant-loop-index l = record {
  seen : All (IsSeenIn l.self.settings l.self.records) (take l.index l.seen);
  replay : IsReplay l.self.settings l.self.records l.replay;
}
