use Rattle.std.proofs.Common.{◌≡◌, map, take}
use Rattle.ob_history.specs.History.{records_of, receipt_of}
use Rattle.ob_history.proofs.recorded.own.receipts_of.Given as goal

abbrev pub invariant-loop-one : goal.invariant-loop-one
invariant-loop-one l = l.receipts.items ≡ map receipt_of (records_of l.caller (take l.one-index l.records))
