use Rattle.std.proofs.Common.{take}
use Rattle.ob_history.specs.History.{AreOwn}
use Rattle.ob_history.proofs.recorded.Recorded.first_foreign_receipt.Given as goal

abbrev pub invariant-loop-index : goal.invariant-loop-index
invariant-loop-index l = AreOwn l.caller l.self.records (take l.index l.receipts)
