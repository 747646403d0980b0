-- A promise is settled once at most, keeps its outcome, and is reported with it.
use Rattle.ob_seq.proofs.Words.{◌≡◌, ℕ, zero, suc, ◌+◌, ◌<◌, ◌≤◌, Bool, true, false, List, [], ◌∷◌, ◌++◌, drop, refl}
use Rattle.ob_seq.proofs.Words.{ap, get_or, append-nil, length, cond, eqb, filter, filter-append, arith, nat_tests, inl}
use Rattle.ob_seq.proofs.Words.{inr, ◌↔◌, Option, Some, None, fold, Command, Outcome, PromiseId, PromiseState, Settled}
use Rattle.ob_seq.proofs.Words.{outcome_of, settlement, settlements_from, rows_after, promise_after, Row, Settings}
use Rattle.ob_seq.proofs.Words.{accepted_among, settled_along}
use Rattle.ob_seq.specs.Answer.{accepted_among_within, are_accepted_within, buffer_limit, commands_after_within}
use Rattle.ob_seq.specs.Answer.{first_refusal_within}
use Rattle.ob_seq.specs.Pending.{settled_along_within, times_settled}
use Rattle.std.specs.List.{Contains}
use Rattle.std.proofs.lemmas.List.Elements.{All-contains_itself, All-filter, All-head}
use Rattle.std.proofs.lemmas.List.Sums.{length-filter}
use Rattle.ob_seq.proofs.Rows.Accepting.{all_among_within, none_or_some}
use Rattle.ob_seq.proofs.Rows.EachRow.{StaysSettled, effect_stays, outcome_at, outcome_in}
use Rattle.ob_seq.proofs.Rows.History.{rows_after_more}

-- a promise with an outcome is settled with it
settled_in : (state : Option PromiseState) (outcome : Outcome) → outcome_in state ≡ Some outcome →
    state ≡ Some (Settled outcome)
settled_in state outcome is = grind arith

-- whether a settlement is of this promise, and those that are
abbrev is_of : ℕ → PromiseId × Outcome → Bool
is_of id settled = eqb settled.0.0 id

abbrev of_one : ℕ → List (PromiseId × Outcome) → List (PromiseId × Outcome)
of_one id settlements = filter (is_of id) settlements

-- what is settled in two steps
in_two_steps : (id : ℕ) (was now after : Option Outcome) → StaysSettled was now → StaysSettled now after →
    settlement id was now ++ settlement id now after ≡ settlement id was after
in_two_steps id was now after first second = grind (arith, first, second)

-- what the first row after a command settles of a promise, and then what the others do
of_first : (id at : ℕ) (before : List Row) (row : Row) (after : List Row) →
    of_one id (settlements_from at before (row ∷ after))
    ≡ cond (eqb at id) (settlement id (outcome_at before 0) (outcome_of row.promise)) []
    ++ of_one id (settlements_from (suc at) (drop 1 before) after)
of_first id at before row after = grind (arith, nat_tests, filter-append)

outcome_behind : (before : List Row) (id : ℕ) → outcome_at (drop 1 before) id ≡ outcome_at before (suc id)
outcome_behind [] id = refl
outcome_behind (was ∷ before) id = refl

-- rows settle no promise before them
none_before : (at id : ℕ) (before after : List Row) → id < at → of_one id (settlements_from at before after) ≡ []
none_before at id before [] early = refl
none_before at id before (row ∷ after) early =
    let other : eqb at id ≡ false = grind (arith, nat_tests) in
    rw (of_first id at before row after, other) (none_before (suc at) id (drop 1 before) after (omega arith))

-- what rows settle of one promise
of_rows : (at more id : ℕ) → id ≡ at + more → (before after : List Row) →
    of_one id (settlements_from at before after) ≡ settlement id (outcome_at before more) (outcome_at after more)
of_rows at more id is before [] = grind arith
of_rows at zero id is before (row ∷ after) =
    let same : eqb at id ≡ true = grind (arith, nat_tests) in
    let rest = none_before (suc at) id (drop 1 before) after (omega arith) in
    rw (of_first id at before row after, same, rest, append-nil)
of_rows at (suc more) id is before (row ∷ after) =
    let other : eqb at id ≡ false = grind (arith, nat_tests) in
    let rest = of_rows (suc at) more id (omega arith) (drop 1 before) after in
    rw (of_first id at before row after, other, rest, outcome_behind before more)

-- what stands in a list and passes a test stands among what passes it
kept : (test : PromiseId × Outcome → Bool) (one : PromiseId × Outcome) → test one ≡ true →
    (xs : List (PromiseId × Outcome)) (index : ℕ) → index < length xs → get_or xs index one ≡ one →
    Contains (filter test xs) one
kept test one passes [] index within is = absurd (omega (arith, within))
kept test one passes (x ∷ xs) zero within is = rw (is, passes) (0, omega arith, refl)
kept test one passes (x ∷ xs) (suc index) within is =
    let there = kept test one passes xs index (omega (arith, within)) is in
    elim (test x) as (λ (first : Bool). Contains (cond first (x ∷ filter test xs) (filter test xs)) one) [
      | true ↦ (suc there.0, omega (arith, there.1), there.2)
      | false ↦ there
    ]

module _ (limit : Option ℕ) (settings : Settings) where
  -- the outcome of a promise after a history
  abbrev outcome_after : List Command → ℕ → Option Outcome
  outcome_after commands id = outcome_at (rows_after settings.estimate commands) id

  -- commands settle of a promise what is settled after them and was not before, and keep its outcome
  record Settle (earlier after : List Command) (settlements : List (PromiseId × Outcome)) (id : ℕ) : Type 0 where
    told : of_one id settlements ≡ settlement id (outcome_after earlier id) (outcome_after after id)
    stays : StaysSettled (outcome_after earlier id) (outcome_after after id)

  all_settle : (earlier commands : List Command) (id : ℕ) →
      Settle earlier (fold (commands_after_within limit settings) earlier commands) (settled_along_within limit settings earlier commands) id
  all_settle earlier [] id = record { told = grind arith; stays = λ outcome is. is }
  all_settle earlier (command ∷ commands) id = elim (none_or_some (first_refusal_within limit settings.estimate earlier command)) [
    | inl none ↦
        let rest = all_settle (earlier ++ command ∷ []) commands id in
        let later = rw (rows_after_more settings.estimate earlier command) at rest.stays in
        let one = effect_stays settings.estimate earlier command id in
        rw none (record {
          told = rw (
            filter-append,
            of_rows 0 id id (omega arith) (rows_after settings.estimate earlier) _,
            rest.told,
            rows_after_more settings.estimate earlier command,
          ) (in_two_steps id _ _ _ one later);
          stays = λ outcome is. later outcome (one outcome is);
        })
    | inr some ↦ rw some.1 (all_settle earlier commands id)
  ]

  -- whatever commands are given, no promise is settled twice
  pub settled_once_within : (commands : List Command) (id : PromiseId) →
      times_settled id (settled_along_within limit settings [] commands) ≤ 1
  settled_once_within commands id =
      let told = ap length (all_settle [] commands id.0).told in
      let now = outcome_after (accepted_among_within limit settings commands) id.0 in
      let few : length (settlement id.0 None now) ≤ 1 = grind arith in
      omega (arith, length-filter (is_of id.0) (settled_along_within limit settings [] commands))

  -- whatever command comes next, a settled promise keeps its outcome
  pub outcome_kept_within : (earlier : List Command) (command : Command) (id : PromiseId) (outcome : Outcome) →
      promise_after settings earlier id ≡ Some (Settled outcome) →
      promise_after settings (commands_after_within limit settings earlier command) id ≡ Some (Settled outcome)
  outcome_kept_within earlier command id outcome is =
      settled_in _ outcome ((all_settle earlier (command ∷ []) id.0).stays outcome (ap outcome_in is))

  module _ (id : PromiseId) (outcome : Outcome) (commands : List Command) where
    -- of a new buffer exactly those promises are settled that its replies report
    pub told_within :
        promise_after settings (accepted_among_within limit settings commands) id ≡ Some (Settled outcome)
        ↔ Contains (settled_along_within limit settings [] commands) (id, outcome)
    told_within =
        let all = settled_along_within limit settings [] commands in
        let told = (all_settle [] commands id.0).told in
        let itself : is_of id.0 (id, outcome) ≡ true = grind (arith, nat_tests) in (
          λ is. All-head (Contains all) (id, outcome) []
              (rw (told, ap outcome_in is) at (All-filter (is_of id.0) (Contains all) all (All-contains_itself all))),
          λ there. settled_in _ outcome
              (grind (arith, rw told at (kept (is_of id.0) (id, outcome) itself all there.0 there.1 there.2))),
        )

    -- and so after accepted commands
    pub accepted_told_within : are_accepted_within limit settings [] commands ≡ true →
        promise_after settings commands id ≡ Some (Settled outcome)
        ↔ Contains (settled_along_within limit settings [] commands) (id, outcome)
    accepted_told_within all = rw (all_among_within limit settings commands all) at told_within

-- of a buffer exactly those promises are settled that its replies report
pub settled_is_told : (settings : Settings) (id : PromiseId) (outcome : Outcome) (commands : List Command) →
    promise_after settings (accepted_among settings commands) id ≡ Some (Settled outcome)
    ↔ Contains (settled_along settings [] commands) (id, outcome)
settled_is_told = told_within buffer_limit
