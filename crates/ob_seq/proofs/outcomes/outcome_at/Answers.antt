use Rattle.std.proofs.Common.{leb-true, of_calls, rules}
use Rattle.std.proofs.lemmas.Fn.{always_returns_same}
use Rattle.std.proofs.lemmas.List.Sorted.{IsPartitionedBy-leb}
use Rattle.ob_seq.proofs.Words.{sym, ◌∙◌, arith, leb, nat_tests, Success}
use Rattle.ob_seq.proofs.Inside.Runs.{outcome_since_first}
use Rattle.ob_seq.proofs.outcomes.outcome_at.Goals as goal

pub returns : goal.returns
returns c =
    let point = c.partition_point-begun.ensures.partitioned (λ run. leb run.from c.args.place)
    (always_returns_same _ _ _ (λ a r f k. search (rules, of_calls)))
    (IsPartitionedBy-leb (λ run. run.from) _ c.args.place c.requires) in
    c.outcome_before.ensures
    ∙ sym (outcome_since_first c.args.runs.now Success c.args.place c.partition_point-begun.result
    c.partition_point-begun.ensures.bound
    (λ i other early. leb-true _ _ (point.0 i other (omega arith) early))
    (λ i other late some. let not = point.1 i other late some in grind (arith, nat_tests)))
