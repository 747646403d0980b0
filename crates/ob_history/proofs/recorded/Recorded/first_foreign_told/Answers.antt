use Rattle.std.specs.List.{All}
use Rattle.std.proofs.Common.{refl, arith, subst, sym}
use Rattle.ob_history.specs.History.{IsReceiptIn}
use Rattle.ob_history.proofs.First.{first_against, never_against, up_to_end}
use Rattle.ob_history.proofs.recorded.Recorded.first_foreign_told.Goals as goal

pub returns-clause-kept : goal.returns-clause-kept
returns-clause-kept c = (
  λ none. up_to_end (All (IsReceiptIn c.args.self.now.records)) c.args.told.now c.loop-index.index
      (omega arith) c.loop-index.invariant,
  λ all. refl,
)

pub returns-then-not-check-clause-foreign : goal.returns-then-not-check-clause-foreign
returns-then-not-check-clause-foreign c =
    let IsKept = IsReceiptIn c.args.self.now.records in
    first_against IsKept c.args.told.now c.loop-index.index c.index-told-index.result c.loop-index-test.true
    c.loop-index.invariant
    (λ kept. absurd (cc (c.check.ensures.1 (subst IsKept (sym c.index-told-index.is) kept))))

pub returns-then-not-check-clause-kept : goal.returns-then-not-check-clause-kept
returns-then-not-check-clause-kept c = (
  λ none. absurd (cc),
  λ all. absurd (never_against (IsReceiptIn c.args.self.now.records) c.args.told.now c.loop-index.index
      (returns-then-not-check-clause-foreign c) all),
)
