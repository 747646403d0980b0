use Rattle.ob_pool.specs.Threads.{HasTransported}
use Rattle.ob_pool.proofs.Taking.{handed_of}
use Rattle.ob_pool.proofs.threads.transport.transport.Given as goal

abbrev pub invariant-passes : goal.invariant-passes
invariant-passes g l =
    HasTransported g.L.Named.opened.settings l.fn.share.maker (g.S.Sink.content l.initial.sink) (g.S.Sink.content l.sink)
    (handed_of l.share l.receipts.items)
