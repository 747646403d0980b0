use Rattle.std.proofs.Common.{[], ◌∷◌, ◌+◌, take}
use Rattle.ob_pool.specs.Inside.{counts_in}
use Rattle.ob_pool.proofs.Counted.{counts_more, true_more}
use Rattle.ob_pool.proofs.report.counting.counts_in.Goals as goal

pub loop-one-preserved : goal.loop-one-preserved
loop-one-preserved c =
    let writers = c.args.writers in
    let receipts = c.args.receipts.now in
    true_more (counts_in writers (take c.loop-one.one-index receipts)) (counts_in writers (c.one-item.result ∷ []))
    (counts_in writers (take (c.loop-one.one-index + 1) receipts)) c.loop-one.counts c.add.new.self
    c.loop-one.invariant c.add.ensures
    (counts_more writers receipts c.loop-one.one-index c.one-item.result c.loop-one-test.true c.one-item.is)
