use Rattle.std.specs.List.{All}
use Rattle.std.specs.Prelude.{IsTrue}
use Rattle.std.proofs.Common.{refl, arith}
use Rattle.std.proofs.lemmas.List.Elements.{All-more}
use Rattle.ob_history.specs.History.{IsSeenIn}
use Rattle.ob_history.proofs.First.{first_against, never_against, none_before, up_to_end}
use Rattle.ob_history.proofs.recorded.Recorded.first_foreign_seen.Goals as goal

pub loop-index-preserved : goal.loop-index-preserved
loop-index-preserved c =
    let IsSeen = IsSeenIn c.args.self.now.settings c.args.self.now.records in
    let shown = c.in_ok-check_along.ensures.answer.0 c.if-not-branch.false in
    record {
      seen =
          All-more IsSeen c.args.seen.now c.loop-index.index _ c.loop-index-test.true c.loop-index.invariant.seen shown;
      replay = c.in_ok-check_along.ensures.kept;
    }

pub returns-clause-seen : goal.returns-clause-seen
returns-clause-seen c = (
  λ none. up_to_end
      (All (IsSeenIn c.args.self.now.settings c.args.self.now.records)) c.args.seen.now c.loop-index.index
      (omega arith) c.loop-index.invariant.seen,
  λ all. refl,
)

pub returns-then-not-branch-clause-foreign : goal.returns-then-not-branch-clause-foreign
returns-then-not-branch-clause-foreign c =
    let IsSeen = IsSeenIn c.args.self.now.settings c.args.self.now.records in
    let told = c.in_ok-check_along.ensures.answer.1 in
    first_against IsSeen c.args.seen.now c.loop-index.index _ c.loop-index-test.true c.loop-index.invariant.seen
    (λ seen. let is : IsTrue c.in_ok-check_along.field-0 = told seen in absurd (cc))

pub returns-then-not-branch-clause-seen : goal.returns-then-not-branch-clause-seen
returns-then-not-branch-clause-seen c = (
  λ none. absurd (cc),
  λ all. absurd (never_against (IsSeenIn c.args.self.now.settings c.args.self.now.records) c.args.seen.now
      c.loop-index.index (returns-then-not-branch-clause-foreign c) all),
)

pub returns-in_err-check_along-clause-frugal : goal.returns-in_err-check_along-clause-frugal
returns-in_err-check_along-clause-frugal c all =
    let looks = none_before c.args.self.now.settings c.args.self.now.records c.args.seen.now c.loop-index.index _
    c.loop-index-test.true c.loop-index.invariant.seen all in
    let no = c.in_err-check_along.ensures.frugal looks in absurd (cc)
