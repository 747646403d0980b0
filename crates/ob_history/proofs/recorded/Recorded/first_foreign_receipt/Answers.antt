use Rattle.std.proofs.Common.{refl, arith}
use Rattle.ob_history.specs.History.{AreOwn}
use Rattle.ob_history.proofs.First.{never_foreign, own_more, own_no_more, up_to_end}
use Rattle.ob_history.proofs.recorded.Recorded.first_foreign_receipt.Goals as goal
use Rattle.ob_history.proofs.recorded.Recorded.first_foreign_receipt.Goals.{then-receipt-caller-via-then-receipt-caller}
use Rattle.ob_history.proofs.recorded.Recorded.first_foreign_receipt.Goals.{then-receipt-caller-via-else-receipt-caller+then-not-check}
use Rattle.ob_history.proofs.recorded.Recorded.first_foreign_receipt.Goals.{then-receipt-caller-via-else-receipt-caller+else-not-check+then-not-rises}

pub loop-index-preserved : goal.loop-index-preserved
loop-index-preserved c =
    own_more c.args.caller c.args.self.now.records c.args.receipts.now c.loop-index.index c.index-receipts-index.result
    c.loop-index-test.true c.index-receipts-index.is c.loop-index.invariant
    c.if-receipt-caller.false (c.if-not-check.ensures.0 refl) (c.if-not-rises.ensures.0 refl)

pub returns-clause-own : goal.returns-clause-own
returns-clause-own c = (
  λ none. up_to_end (AreOwn c.args.caller c.args.self.now.records) c.args.receipts.now c.loop-index.index
      (omega arith) c.loop-index.invariant,
  λ own. refl,
)

pub returns-then-receipt-caller-clause-foreign : goal.returns-then-receipt-caller-clause-foreign
returns-then-receipt-caller-clause-foreign c =
    own_no_more c.args.caller c.args.self.now.records c.args.receipts.now c.loop-index.index
    c.index-receipts-index.result
    c.loop-index-test.true c.index-receipts-index.is c.loop-index.invariant
    (λ named kept rises. elim c.then-receipt-caller.branch [
      | then-receipt-caller-via-then-receipt-caller w ↦ w.if-receipt-caller.true named
      | then-receipt-caller-via-else-receipt-caller+then-not-check w ↦ absurd (cc (w.check.ensures.1 kept))
      | then-receipt-caller-via-else-receipt-caller+else-not-check+then-not-rises w ↦ absurd
          (cc (w.rises.ensures.1 rises))
    ])

pub returns-then-receipt-caller-clause-own : goal.returns-then-receipt-caller-clause-own
returns-then-receipt-caller-clause-own c = (
  λ none. absurd (cc),
  λ own. absurd (never_foreign c.args.caller c.args.self.now.records c.args.receipts.now c.loop-index.index
      (returns-then-receipt-caller-clause-foreign c) own),
)
