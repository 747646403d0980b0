use Rattle.std.proofs.Common.{◌≡◌, ℕ, None, Some, refl, arith}
use Rattle.std.proofs.lemmas.Nat.Bits.{bit_at_or}
use Rattle.ob_core.specs.Worked.{free_lane}
use Rattle.ob_lanes.proofs.Halves.{split_told}
use Rattle.ob_lanes.proofs.worked.worked_parts.Goals as goal

pub returns-clause-split_in_two : goal.returns-clause-split_in_two
returns-clause-split_in_two c = (
  split_told 3 12 (free_lane 10 14 6) (free_lane 10 14 6) (free_lane 7 2 2) (free_lane 3 12 4) refl (omega arith) refl
      refl refl,
  (λ split. let wrong : ◌≡◌ {A = ℕ} 7 3 = split.second_room in absurd (omega (arith, wrong))),
  (λ split. let wrong : ◌≡◌ {A = ℕ} 11 10 = split.rooms in absurd (omega (arith, wrong))),
  (λ split. let wrong : ◌≡◌ {A = ℕ} 2 1 = split.held 2 in absurd (omega (arith, wrong))),
  (λ split. let wrong : ◌≡◌ {A = ℕ} 1 0 = split.raised 3 in absurd (omega (arith, wrong))),
  (λ split. let wrong : ◌≡◌ {A = ℕ} 0 1 = split.second_raised 2 in absurd (omega (arith, wrong))),
  (λ split. let wrong : Some 1 ≡ None = split.second_free.debt in absurd (cc)),
)

pub returns-clause-joined_in_one : goal.returns-clause-joined_in_one
returns-clause-joined_in_one c = (
  record { free = record { debt = refl }; room = refl; held = bit_at_or 2 12; raised = bit_at_or 2 4 },
  record { free = record { debt = refl }; room = refl; held = bit_at_or 2 12; raised = bit_at_or 2 4 },
  (λ joined. let wrong : ◌≡◌ {A = ℕ} 10 8 = joined.room in absurd (omega (arith, wrong))),
  (λ joined. let wrong : ◌≡◌ {A = ℕ} 7 10 = joined.room in absurd (omega (arith, wrong))),
  (λ joined. let wrong : ◌≡◌ {A = ℕ} 0 1 = joined.held 3 in absurd (omega (arith, wrong))),
  (λ joined. let wrong : ◌≡◌ {A = ℕ} 0 1 = joined.raised 2 in absurd (omega (arith, wrong))),
  (λ joined. let wrong : Some 1 ≡ None = joined.free.debt in absurd (cc)),
)
