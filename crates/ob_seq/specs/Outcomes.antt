-- How the outcomes of what is gone are kept. No public clause cites this module.
use Rattle.std.specs.Prelude.{◌≢◌, ◌≤◌, ◌-◌, ◌<◌, ℕ, zero, suc, List, [], ◌∷◌, length, map, if◌then◌else◌, leb, slice_index_or, vec_len, vec_capacity}
use Rattle.std.specs.List.Sorted.{IsNonDecreasingBy}
use Rattle.std.specs.List.{range_with_len}
use Rattle.ob_types.specs.Limits.{most_writes}
use Rattle.ob_types.specs.declared.promise.Outcome.{Outcome}
use Rattle.ob_types.specs.declared.promise.Outcome.TheVariants.{Success}
use Rattle.ob_seq.specs.declared.outcomes.Run.{Run}
use Rattle.ob_seq.specs.declared.outcomes.Outcomes.TheInside.{Inside}

-- outcomes, oldest first, that of the last run, and for how many more there is room, whatever they are
pub record Endings : Type 0 where
  pub list : List Outcome
  pub last : Outcome
  pub room : ℕ

-- the outcome at a place: that of the last run that begins at or before it, or else this one
abbrev pub outcome_since : List Run → Outcome → ℕ → Outcome
outcome_since [] before place = before
outcome_since (run ∷ runs) before place =
    outcome_since runs (if leb run.from place then run.outcome else before) place

-- the outcome at a place: what comes before the first run was sent
abbrev pub outcome_at : List Run → ℕ → Outcome
outcome_at runs place = outcome_since runs Success place

-- the outcome of the last of the first `count` runs, or else this one
abbrev pub outcome_before : List Run → ℕ → Outcome → Outcome
outcome_before runs zero before = before
outcome_before runs (suc count) before = (slice_index_or runs count (record { from = 0; outcome = before })).outcome

-- the outcomes that runs give of `count` messages
abbrev pub endings_of : Inside → Endings
endings_of inside = record {
  list = map (outcome_at inside.runs.items) (range_with_len 0 inside.count);
  last = outcome_before inside.runs.items (length inside.runs.items) Success;
  room = vec_capacity inside.runs - vec_len inside.runs;
}

-- what every call keeps: no run begins before the one in front of it, or past the messages, which are within the limit,
-- and each ended otherwise than the one in front of it
pub record IsOrdered (inside : Inside) : Type 0 where
  pub rise : IsNonDecreasingBy (λ run. run.from) inside.runs.items
  pub begun : (place : ℕ) (other : Run) → place < length inside.runs.items →
      (slice_index_or inside.runs.items place other).from ≤ inside.count
  pub few : inside.count ≤ most_writes
  pub differ : (place : ℕ) → place < length inside.runs.items →
      outcome_before inside.runs.items (suc place) Success ≢ outcome_before inside.runs.items place Success
