use Rattle.std.proofs.Common.{◌<◌, [], ◌∷◌, ◌++◌, length, take, sym, ap, ◌∙◌, arith}
use Rattle.ob_history.proofs.Own.{own, with_another, with_own}
use Rattle.ob_history.proofs.recorded.own.receipts_of.Goals as goal
use Rattle.ob_history.proofs.recorded.own.receipts_of.Goals.{then-one-caller+in_ok-receipt+in_ok-push, else-one-caller}

pub loop-one-preserved : goal.loop-one-preserved
loop-one-preserved c =
    let records = c.args.records.now in
    let index = c.loop-one.one-index in
    let one = c.one-item.result in
    let within : index < length records = omega (arith, c.loop-one-test.true) in
    elim c.if-one-caller.branch [
      | then-one-caller+in_ok-receipt+in_ok-push w ↦
          ap (λ receipts. receipts.items) w.receipts-is
          ∙ w.in_ok-push.ensures.items
          ∙ ap (λ items. items ++ w.in_ok-receipt.field-0 ∷ []) c.loop-one.invariant
          ∙ ap (λ receipt. own c.args.caller (take index records) ++ receipt ∷ []) w.in_ok-receipt.ensures.same
          ∙ sym (with_own c.args.caller records index one within c.one-item.is w.if-one-caller.true)
      | else-one-caller w ↦
          ap (λ receipts. receipts.items) w.receipts-is
          ∙ c.loop-one.invariant
          ∙ sym (with_another c.args.caller records index one within c.one-item.is w.if-one-caller.false)
    ]
