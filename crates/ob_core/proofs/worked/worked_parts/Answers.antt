use Rattle.std.proofs.Common.{◌≡◌, ℕ, w32, refl, arith}
use Rattle.std.proofs.lemmas.Nat.Bits.{bit_at-zero}
use Rattle.ob_core.specs.Step.{AreParts}
use Rattle.ob_core.specs.Worked.{free_lane, second_lane}
use Rattle.ob_core.proofs.BitLemmas.{MakeUp-and}
use Rattle.ob_core.proofs.PartLemmas.{AreParts-cut}
use Rattle.ob_core.proofs.worked.worked_parts.Goals as goal

pub returns-clause-bit_given : goal.returns-clause-bit_given
returns-clause-bit_given c =
    AreParts-cut w32 (free_lane 10 6 2) 0 4 (record { debt = refl })
    (λ i. omega (arith, MakeUp-and w32 6 4 (omega arith) (omega arith) i)) (omega arith) (omega arith) (omega arith)
    (omega arith)

pub returns-clause-bit_given_and_kept : goal.returns-clause-bit_given_and_kept
returns-clause-bit_given_and_kept c = λ parts.
    let wrong : ◌≡◌ {A = ℕ} 2 1 = parts.held 2 in absurd (omega (arith, wrong))

-- half of the room, 40 of it kept and 20 given, with no bit
forty_and_twenty : AreParts second_lane (record second_lane { room = 40 }) (record second_lane { room = 20; held = 0 })
forty_and_twenty = record {
  whole_free = record { debt = refl };
  first_free = record { debt = refl };
  second_free = record { debt = refl };
  rooms = refl;
  held = λ i. omega (arith, bit_at-zero i);
  raised = λ i. omega (arith, bit_at-zero i);
  first_among = λ i. omega (arith, bit_at-zero i);
  second_among = λ i. omega (arith, bit_at-zero i);
}

pub returns-clause-divided : goal.returns-clause-divided
returns-clause-divided c = record { lane = second_lane; is_lane = refl; parts = forty_and_twenty; after = refl }

pub returns-clause-merged : goal.returns-clause-merged
returns-clause-merged c = record {
  lane = record second_lane { room = 40 };
  other_lane = record second_lane { room = 20; held = 0 };
  is_lane = refl;
  is_other = refl;
  apart = λ same. absurd (omega (arith, same));
  parts = forty_and_twenty;
  after = refl;
}
