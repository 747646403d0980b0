use Rattle.std.proofs.Common.{List, sym, subst}
use Rattle.std.proofs.lemmas.Result.{IfOk-at_ok}
use Rattle.ob_history.specs.declared.receipt.Receipt.{Receipt}
use Rattle.ob_pool.specs.Threads.{HasTransported}
use Rattle.ob_pool.proofs.Taking.{handed_of, nothing_transported, one_more_pass}
use Rattle.ob_pool.proofs.threads.transport.transport.Goals as goal
use Rattle.ob_pool.proofs.threads.transport.transport.Goals.{else-passes-test, then-passes-test+in-Ok+then-eq+then-last}

pub passes-init : goal.passes-init
passes-init g c =
    let content = g.S.Sink.content c.args.sink.now in
    subst (λ (items : List Receipt). HasTransported g.L.Named.opened.settings c.args.share.maker content content
    (handed_of c.args.share items)) (sym c.new-receipts.ensures.items)
    (nothing_transported g.L.Named.opened.settings c.args.share content)

pub passes-preserved : goal.passes-preserved
passes-preserved g c =
    let pass = c.one_pass-end in
    one_more_pass g.L.Named.opened.settings c.args.share.maker c.desk-desk.result.maker c.passes.share pass.result.share
    c.desk-desk.result.history.records c.passes.receipts.items pass.new.receipts.items
    (g.S.Sink.content c.args.sink.now) (g.S.Sink.content c.passes.sink) (g.S.Sink.content pass.new.sink)
    c.passes.invariant c.desk-desk.ensures.maker c.desk-desk.ensures.part pass.ensures.caller
    (IfOk-at_ok _ c.in-Ok.is pass.ensures.failings) (IfOk-at_ok _ c.in-Ok.is pass.ensures.taken)

pub returns-clause-transported : goal.returns-clause-transported
returns-clause-transported g c =
    let settings = g.L.Named.opened.settings in
    let maker = c.args.share.maker in
    let before = g.S.Sink.content c.args.sink.now in
    let carried : HasTransported settings maker before (g.S.Sink.content c.passes-test.sink)
    (handed_of c.passes-test.share c.passes-test.receipts.items) = elim c.passes-test.branch [
      | else-passes-test w ↦ rw (w.sink-is, w.share-is, w.receipts-is) c.passes.invariant
      | then-passes-test+in-Ok+then-eq+then-last w ↦
          let pass = w.one_pass-end in
          rw (w.sink-is, w.share-is, w.receipts-is)
          (one_more_pass settings maker w.desk-desk.result.maker c.passes.share pass.result.share
          w.desk-desk.result.history.records c.passes.receipts.items pass.new.receipts.items
          before (g.S.Sink.content c.passes.sink) (g.S.Sink.content pass.new.sink)
          c.passes.invariant w.desk-desk.ensures.maker w.desk-desk.ensures.part pass.ensures.caller
          (IfOk-at_ok _ w.in-Ok.is pass.ensures.failings) (IfOk-at_ok _ w.in-Ok.is pass.ensures.taken))
    ] in
    record {
      caller = carried.caller;
      failings = carried.failings;
      taken = carried.taken;
    }
