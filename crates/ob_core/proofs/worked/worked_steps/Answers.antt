use Rattle.std.proofs.Common.{◌≡◌, ◌≢◌, ℕ, refl, arith}
use Rattle.std.specs.Int.{bit_at}
use Rattle.ob_core.specs.World.{PutsBit}
use Rattle.ob_core.specs.Worked.{PutsBit1}
use Rattle.ob_core.proofs.BitLemmas.{SetsBit-with_bit, ClearsBit-without_bit}
use Rattle.ob_core.proofs.worked.worked_steps.Goals as goal

-- a word with bit 1 put, and three that go apart from it at bit 0, at bit 2 and at that bit
only_first : (value old new more less : ℕ) → PutsBit value old 1 new → bit_at more 0 ≢ bit_at old 0
    → bit_at less 2 ≢ bit_at old 2 → bit_at old 1 ≢ value
    → PutsBit1 (PutsBit value) old new more less
only_first value old new more less puts above below other = (
  puts,
  (λ wrong. above (wrong.others 0 (λ same. absurd (omega (arith, same))))),
  (λ wrong. below (wrong.others 2 (λ same. absurd (omega (arith, same))))),
  (λ wrong. other wrong.here),
)

pub returns-clause-bit_set : goal.returns-clause-bit_set
returns-clause-bit_set c =
    only_first 1 4 6 7 2 (SetsBit-with_bit 4 1) (λ same. absurd (omega (arith, same)))
    (λ same. absurd (omega (arith, same))) (λ same. absurd (omega (arith, same)))

pub returns-clause-bit_cleared : goal.returns-clause-bit_cleared
returns-clause-bit_cleared c =
    only_first 0 6 4 5 0 (ClearsBit-without_bit 6 1) (λ same. absurd (omega (arith, same)))
    (λ same. absurd (omega (arith, same))) (λ same. absurd (omega (arith, same)))

-- bits 1 and above of 6 are those of 7
seven : (i : ℕ) → i ≢ 0 → bit_at 7 i ≡ bit_at 6 i
seven i other = (SetsBit-with_bit 6 0).others i other

pub returns-clause-rest_left : goal.returns-clause-rest_left
returns-clause-rest_left c = (
  seven,
  (λ left. let wrong : bit_at 4 1 ≡ bit_at 6 1 = left 1 (λ same. absurd (omega (arith, same))) in
      absurd (omega (arith, wrong))),
  refl,
  (λ left. absurd (omega (arith, left))),
  (λ left. absurd (omega (arith, left.1))),
)
