use Rattle.std.proofs.Common.{◌≡◌, ℕ, ◌+◌, ◌≤◌, [], ◌∷◌, w32, refl, arith}
use Rattle.std.specs.Int.{bit_at}
use Rattle.std.proofs.lemmas.List.Elements.{All-cons, All-nil}
use Rattle.std.proofs.lemmas.Nat.Bits.{bit_at-zero}
use Rattle.ob_core.specs.World.{IsWithinRoom, AreAmong}
use Rattle.ob_core.specs.Worked.{first_lane, second_lane}
use Rattle.ob_core.specs.declared.lane.Lane.{Lane}
use Rattle.ob_core.proofs.BitLemmas.{MakeUp-and}
use Rattle.ob_core.proofs.worked.worked_accounts.Goals as goal

-- bits 1 and 2 are those of both lanes
both_bits : (i : ℕ) → bit_at 2 i + bit_at 4 i ≡ bit_at 6 i
both_bits i = MakeUp-and w32 6 4 (omega arith) (omega arith) i

within_first : IsWithinRoom (first_lane 2)
within_first = omega arith

within_second : IsWithinRoom second_lane
within_second = omega arith

abbrev Among : Lane → Type 0
Among lane = AreAmong lane.raised lane.held

pub returns-clause-good : goal.returns-clause-good
returns-clause-good c = record {
  bytes = record {
    marks = refl;
    total = refl;
    rooms = refl;
    within = All-cons IsWithinRoom (first_lane 2) (second_lane ∷ []) within_first
        (All-cons IsWithinRoom second_lane [] within_second (All-nil IsWithinRoom));
  };
  mark = record { above = λ high low. absurd (omega (arith, high)); below = λ low high. absurd (omega (arith, low)) };
  bits = record {
    mark = refl;
    held = λ i. omega (arith, both_bits i);
    among = All-cons Among (first_lane 2) (second_lane ∷ []) (λ i. omega arith)
        (All-cons Among second_lane [] (λ i. omega (arith, bit_at-zero i)) (All-nil Among));
    shown = λ i above. omega (arith, bit_at-zero i);
  };
}

pub returns-clause-shown_and_not_raised : goal.returns-clause-shown_and_not_raised
returns-clause-shown_and_not_raised c = λ accounts.
    let wrong : ◌≡◌ {A = ℕ} 0 1 = accounts.bits.shown 2 (omega arith) in absurd (omega (arith, wrong))

pub returns-clause-held_twice : goal.returns-clause-held_twice
returns-clause-held_twice c = λ accounts. let wrong : 2 ≤ 1 = accounts.bits.held 1 in absurd (omega (arith, wrong))

pub returns-clause-raised_and_not_held : goal.returns-clause-raised_and_not_held
returns-clause-raised_and_not_held c = λ accounts.
    let wrong : 1 ≤ 0 = accounts.bits.among 0 second_lane (omega arith) 2 in absurd (omega (arith, wrong))

pub returns-clause-forgotten_mark : goal.returns-clause-forgotten_mark
returns-clause-forgotten_mark c = λ accounts. absurd (cc (accounts.mark.below (omega arith) (omega arith)))

pub returns-clause-lost_mark : goal.returns-clause-lost_mark
returns-clause-lost_mark c = λ accounts. absurd (cc (accounts.mark.above (omega arith) (omega arith)))

pub returns-clause-marked : goal.returns-clause-marked
returns-clause-marked c = (
  record { above = λ high low. refl; below = λ low high. absurd (omega (arith, low)) },
  (λ marked. absurd (cc (marked.above (omega arith) (omega arith)))),
  record { above = λ high low. absurd (omega (arith, high)); below = λ low high. absurd (omega (arith, low)) },
  record { above = λ high low. absurd (omega (arith, high)); below = λ low high. absurd (omega (arith, low)) },
  record { above = λ high low. absurd (omega (arith, high)); below = λ low high. refl },
  (λ marked. absurd (cc (marked.below (omega arith) (omega arith)))),
)

pub returns-clause-owing_more_than_room : goal.returns-clause-owing_more_than_room
returns-clause-owing_more_than_room c = λ accounts.
    let within = accounts.bytes.within 0 second_lane (omega arith) in
    let wrong : 61 ≤ 60 = within in absurd (omega (arith, wrong))
