-- The numbers on an axis.
use Rattle.std.proofs.Common.{◌≡◌, ◌≤◌, ℕ, Bool, true, false, List, [], ◌∷◌, arith, leb-true}
use Rattle.std.proofs.lemmas.Bool.{and_parts}
use Rattle.std.specs.Prelude.{Some, cond, find, leb}
use Rattle.std.specs.List.{list_all}
use Rattle.std.specs.Option.{unwrap_or}

-- whether a number is at most the greatest round one
abbrev pub is_within : ℕ → Bool
is_within number = leb number 1000000000

-- of numbers that are, the first that passes a test is at most that, too
pub first_within : (test : ℕ → Bool) (numbers : List ℕ) → list_all is_within numbers ≡ true →
    unwrap_or (find test numbers) 1000000000 ≤ 1000000000
first_within test [] within = omega arith
first_within test (number ∷ numbers) within =
    let both = and_parts (is_within number) (list_all is_within numbers) within in
    elim (test number) as (λ passes. unwrap_or (cond passes (Some number) (find test numbers)) 1000000000 ≤ 1000000000) [
      | true ↦ leb-true number 1000000000 both.0
      | false ↦ first_within test numbers both.1
    ]
