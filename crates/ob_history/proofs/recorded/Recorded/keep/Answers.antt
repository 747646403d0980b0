use Rattle.std.proofs.Common.{[], ◌∷◌, ◌++◌, ap, ◌∙◌, rules}
use Rattle.ob_history.specs.History.{next_record, History, receipt_of}
use Rattle.ob_history.specs.declared.receipt.Receipt.{Receipt}
use Rattle.ob_history.proofs.Calls.{placed}
use Rattle.ob_history.proofs.recorded.Recorded.keep.Goals as goal

pub returns-clause-kept : goal.returns-clause-kept
returns-clause-kept c =
    let at = placed c.self.inside c.self-2.inside _ _ c.args.caller c.args.command c.len-place.result c.index.result.now
    c.len-place.ensures c.if-place-self.false c.self.view_is c.self-2.view_is
    (c.in_ok-record.ensures.after (λ wanted. absurd (cc))) in
    let made = c.receipt_with.ensures ∙ ap receipt_of (c.index.ensures ∙ at.found)
    ∙ ap (λ (before : History). receipt_of (next_record before c.args.caller c.args.command)) c.self.view_is in
    record {
      kept = c.push_reserved.ensures.items
          ∙ ap (λ (receipt : Receipt). c.args.receipts.now.items ++ receipt ∷ []) made;
      unkept = search rules;
    }
