use Rattle.ob_seq.proofs.Words.{◌↔◌, ◌<◌, ◌≤◌, ◌-◌, ℕ, arith, nat_tests, Marks}
use Rattle.ob_types.specs.Limits.{greatest_total}
use Rattle.ob_seq.specs.Looks.{before_writable}
use Rattle.ob_seq.proofs.Rows.Limits.{total_within}
use Rattle.ob_seq.proofs.laws.before_writable_is_the_least_fall.Goals as goal

least_fall : (marks : Marks) (word sum fall : ℕ) → 0 < marks.low → sum ≤ greatest_total →
    0 < before_writable marks word sum → before_writable marks word sum ≤ fall ↔ sum - fall < marks.low
least_fall marks word sum fall some within shown = grind (arith, nat_tests)

pub returns-clause-at_a_look : goal.returns-clause-at_a_look
returns-clause-at_a_look c settings commands fall accepted some shown =
    grind (arith, least_fall, total_within)
