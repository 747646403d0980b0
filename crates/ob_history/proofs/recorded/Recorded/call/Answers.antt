use Rattle.std.proofs.Common.{length, Result, Ok, sym, ap, ◌∙◌, arith, rules}
use Rattle.ob_types.specs.declared.refusal.Refusal.{Refusal}
use Rattle.ob_seq.specs.Pending.{settled_after, settled_by}
use Rattle.ob_history.specs.History.{call_answer, next_record, accepted_commands, receipt_of}
use Rattle.ob_history.specs.Inside.{history_of}
use Rattle.ob_history.specs.declared.receipt.Receipt.{Receipt}
use Rattle.ob_history.specs.declared.record.Record.{Record}
use Rattle.ob_history.proofs.Calls.{answer_with_place, placed}
use Rattle.ob_history.proofs.recorded.Recorded.call.Goals as goal

-- Named for the must-fail edits that fail here: `search` finds it unasked (CONTRIBUTING.md).
pub returns-in_err-copies : goal.returns-in_err-copies
returns-in_err-copies c = record {
  answer = search rules;
  after = search rules;
  no_memory_last = search rules;
  frugal = search rules;
  refused = search rules;
}

pub index-requires : goal.index-requires
index-requires c =
    let one = next_record (history_of c.self.inside) c.args.caller c.args.command in
    (placed c.self.inside c.self-2.inside _ _ c.args.caller c.args.command c.len-place.result one c.len-place.ensures
    c.if-place-self.false c.self.view_is c.self-2.view_is (c.in_ok-record.ensures.after (λ wanted. absurd (cc)))).within

pub receipt-requires-clause-command : goal.receipt-requires-clause-command
receipt-requires-clause-command c =
    let at = placed c.self.inside c.self-2.inside _ _ c.args.caller c.args.command c.len-place.result c.index.result.now
    c.len-place.ensures c.if-place-self.false c.self.view_is c.self-2.view_is
    (c.in_ok-record.ensures.after (λ wanted. absurd (cc))) in
    ap (λ (other : Record). other.command) (c.index.ensures ∙ at.found) ∙ sym c.in_ok-copies.ensures.told

pub receipt-requires-clause-few : goal.receipt-requires-clause-few
receipt-requires-clause-few c =
    let at = placed c.self.inside c.self-2.inside _ _ c.args.caller c.args.command c.len-place.result c.index.result.now
    c.len-place.ensures c.if-place-self.false c.self.view_is c.self-2.view_is
    (c.in_ok-record.ensures.after (λ wanted. absurd (cc))) in
    let commands = accepted_commands c.self.inside.records.items in
    omega (
      arith,
      c.in_ok-copies.ensures.spare commands c.self.invariant.stands,
      ap (λ settings. settled_after settings commands c.args.command) c.self.invariant.settings,
      ap (λ (other : Record). length (settled_by other.reply)) (c.index.ensures ∙ at.found),
    )

pub returns : goal.returns
returns c =
    let at = placed c.self.inside c.self-2.inside _ _ c.args.caller c.args.command c.len-place.result c.index.result.now
    c.len-place.ensures c.if-place-self.false c.self.view_is c.self-2.view_is
    (c.in_ok-record.ensures.after (λ wanted. absurd (cc))) in
    let answer : Record → Result Receipt Refusal = λ one. Ok (receipt_of one) in
    record {
      answer = λ wanted.
          ap (λ (receipt : Receipt). let told : Result Receipt Refusal = Ok receipt in told) c.receipt.ensures
          ∙ ap answer (c.index.ensures ∙ at.found)
          ∙ sym (answer_with_place (history_of c.self.inside) c.args.caller c.args.command at.free)
          ∙ ap (λ before. call_answer before c.args.caller c.args.command) c.self.view_is;
      after = search rules;
      no_memory_last = search rules;
      frugal = search rules;
      refused = search rules;
    }
