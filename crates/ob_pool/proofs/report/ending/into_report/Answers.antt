use Rattle.std.proofs.Common.{◌≡◌, List, ◌++◌, [], ◌∷◌, sym, ap, ◌∙◌, subst, rules}
use Rattle.std.proofs.lemmas.Nat.Bits.{bit_at-zero}
use Rattle.ob_history.specs.History.{History}
use Rattle.ob_history.specs.declared.receipt.Receipt.{Receipt}
use Rattle.ob_shared.specs.Calls.{Handed}
use Rattle.ob_pool.specs.Inside.{AreTrueIfFit, HaveHandedIn, counts_in, counts_of, receipts_in}
use Rattle.ob_pool.proofs.Handing.{counts_told}
use Rattle.ob_pool.proofs.Counted.{true_sum}
use Rattle.ob_pool.proofs.report.ending.into_report.Goals as goal

pub report_of-requires : goal.report_of-requires
report_of-requires g c =
    let writers = c.args.context.writers in
    let dones = c.args.ended.dones.items in
    let done = c.args.ended.done in
    let handed : HaveHandedIn c.in-Ok.recorded.records (dones ++ done ∷ []) = record {
      own = c.in-Ok.ensures.own;
      made = c.in-Ok.ensures.made;
      counted = c.in-Ok.ensures.counted;
      saw = c.in-Ok.ensures.saw;
    } in
    let receipts : c.deref.result.now ≡ done.receipts =
    c.deref.ensures.value ∙ ap (λ (one : Handed). one.receipts) c.done.view_is in
    true_sum (counts_in writers (receipts_in dones)) (counts_in writers done.receipts)
    (counts_of writers c.in-Ok.recorded.records) c.args.ended.counts c.counts_in.result c.add_all.new.self
    c.requires.counted
    (subst (λ (receipts : List Receipt). AreTrueIfFit (counts_in writers receipts) c.counts_in.result)
    receipts c.counts_in.ensures)
    c.add_all.ensures (counts_told writers c.in-Ok.recorded.records dones done c.requires.numbered handed)

-- `rest` is written out for the must-fail edits that fail there: `search` finds it unasked (CONTRIBUTING.md).
pub returns-clause-ended : goal.returns-clause-ended
returns-clause-ended g c = record {
  opened = search rules;
  handed =
      subst (λ (history : History). HaveHandedIn history.records (c.args.ended.dones.items ++ c.args.ended.done ∷ []))
      (sym c.report_of.ensures.recorded)
      (record {
        own = c.in-Ok.ensures.own;
        made = c.in-Ok.ensures.made;
        counted = c.in-Ok.ensures.counted;
        saw = c.in-Ok.ensures.saw;
      });
  counts = c.report_of.ensures.counted;
  rest = record {
    total = search rules;
    clear = λ index above. rw c.report_of.ensures.hand
        (c.in-Ok-finish.ensures.foreign index above (rw c.requires.no_bit (bit_at-zero index)));
    mark = search rules;
  };
}
