use Rattle.std.proofs.Common.{take}
use Rattle.ob_pool.specs.Inside.{AreTrueIfFit, counts_in}
use Rattle.ob_pool.proofs.report.counting.counts_in.Given as goal

abbrev pub invariant-loop-one : goal.invariant-loop-one
invariant-loop-one l = AreTrueIfFit (counts_in l.writers (take l.one-index l.receipts)) l.counts
