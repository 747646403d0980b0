use Rattle.std.proofs.Common.{rules, ◌≡◌, [], ◌∷◌, refl, ap, arith}
use Rattle.std.specs.Prelude.{Some, slice_get}
use Rattle.ob_history.specs.History.{AreOwn, receipt_of}
use Rattle.ob_history.specs.Worked.{flush_of, refused_cancel, removal, worked_records, write_at}
use Rattle.ob_history.specs.declared.record.Record.{Record}
use Rattle.ob_history.proofs.Lists.{counts_differ}
use Rattle.ob_history.proofs.worked.worked_receipts.Goals as goal

pub returns-clause-exchanged : goal.returns-clause-exchanged
returns-clause-exchanged c = (
  λ own. omega (arith, own.rising 0 1 (receipt_of removal) (omega arith) (omega arith)),
  λ own. omega (arith, own.rising 0 1 (receipt_of removal) (omega arith) (omega arith)),
)

first_is_own : AreOwn 7 worked_records (receipt_of (write_at 0) ∷ [])
first_is_own = search rules

pub returns-clause-foreign : goal.returns-clause-foreign
returns-clause-foreign c = (
  λ own. omega (arith, own.named 0 (receipt_of refused_cancel) (omega arith)),
  record {
    within = omega arith;
    before = first_is_own;
    broken = λ own.
        let kept : slice_get worked_records 2 ≡ Some (flush_of 2) = own.kept 1 (receipt_of removal) (omega arith) in
        let same : flush_of 2 ≡ flush_of 1 = cc in
        counts_differ (flush_of 1).reply (flush_of 2).reply refl refl (ap (λ (one : Record). one.reply) same);
  },
)
