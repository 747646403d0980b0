use Rattle.std.proofs.Common.{take}
use Rattle.std.specs.List.{All}
use Rattle.ob_history.specs.History.{IsReceiptIn}
use Rattle.ob_history.proofs.recorded.Recorded.first_foreign_told.Given as goal

abbrev pub invariant-loop-index : goal.invariant-loop-index
invariant-loop-index l = All (IsReceiptIn l.self.records) (take l.index l.told)
