use Rattle.std.proofs.Common.{take}
use Rattle.ob_pool.specs.Inside.{AreTrueIfFit, counts_with, plus}
use Rattle.ob_pool.proofs.report.counts.Counts.add_settled.Given as goal

abbrev pub invariant-loop-settlement : goal.invariant-loop-settlement
invariant-loop-settlement l =
    AreTrueIfFit (plus l.initial.self (counts_with (take l.settlement-index l.settled))) l.self
