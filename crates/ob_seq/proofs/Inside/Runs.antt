-- The outcomes that runs give.
use Rattle.std.specs.Prelude.{◌≢◌, replicate}
use Rattle.ob_seq.proofs.Words.{◌≡◌, Bool, ltb, ℕ, zero, suc, ◌+◌, ◌<◌, ◌≤◌, ◌-◌, List, [], ◌∷◌, ◌++◌, length, map, get_or, leb, true, false}
use Rattle.ob_seq.proofs.Words.{refl, sym, ap, ◌∙◌, arith, range_with_len, Outcome, Success, cond, nat_tests, add-zero, append-nil, append_assoc}
use Rattle.std.proofs.lemmas.List.{get_or_append_left, get_or_default, get_or_push, length_push}
use Rattle.std.proofs.lemmas.List.Sorted.{IsNonDecreasingBy-push}
use Rattle.std.specs.List.Sorted.{IsNonDecreasingBy}
use Rattle.std.proofs.lemmas.List.FromFn.{fill_by_all, get_or-map-range_with_len, length-map-range_with_len, map-range_with_len_more}
use Rattle.ob_seq.specs.Outcomes.{outcome_since, outcome_before, outcome_at}
use Rattle.ob_seq.specs.declared.outcomes.Run.{Run}

-- the last of some runs behind another
same_before : (run : Run) (runs : List Run) (before : Outcome) (count : ℕ) → count ≤ length runs →
    outcome_before runs count run.outcome ≡ outcome_before (run ∷ runs) (suc count) before
same_before run runs before zero within = refl
same_before run runs before (suc count) within =
    ap (λ (one : Run). one.outcome) (get_or_default runs count (record { from = 0; outcome = run.outcome })
    (record { from = 0; outcome = before }) (omega arith))

-- if the first `count` runs begin at or before a place, and no other does, the last of them gives its outcome
pub outcome_since_first : (runs : List Run) (before : Outcome) (place count : ℕ) → count ≤ length runs →
    ((i : ℕ) (other : Run) → i < count → (get_or runs i other).from ≤ place) →
    ((i : ℕ) (other : Run) → count ≤ i → i < length runs → place < (get_or runs i other).from) →
    outcome_since runs before place ≡ outcome_before runs count before
outcome_since_first [] before place zero within early late = refl
outcome_since_first [] before place (suc count) within early late = absurd (omega arith)
outcome_since_first (run ∷ runs) before place zero within early late =
    let behind : place < run.from = late 0 run (omega arith) (omega arith) in
    let test : leb run.from place ≡ false = grind (arith, nat_tests) in
    rw test (outcome_since_first runs before place 0 (omega arith) (λ i other few. absurd (omega arith))
    (λ i other from some. late (suc i) other (omega arith) (omega arith)))
outcome_since_first (run ∷ runs) before place (suc count) within early late =
    let there : run.from ≤ place = early 0 run (omega arith) in
    let test : leb run.from place ≡ true = grind (arith, nat_tests) in
    rw test (outcome_since_first runs run.outcome place count (omega arith)
    (λ i other few. early (suc i) other (omega arith))
    (λ i other from some. late (suc i) other (omega arith) (omega arith))
    ∙ same_before run runs before count (omega arith))

-- one more run gives the places from its first on
since_more : (runs : List Run) (run : Run) (before : Outcome) (place : ℕ) →
    outcome_since (runs ++ run ∷ []) before place
    ≡ cond (leb run.from place) run.outcome (outcome_since runs before place)
since_more [] run before place = refl
since_more (first ∷ runs) run before place =
    since_more runs run (cond (leb first.from place) first.outcome before) place

-- one more message that ended as the last run
pub told_on : (runs : List Run) (count : ℕ) (outcome : Outcome) →
    ((i : ℕ) (other : Run) → i < length runs → (get_or runs i other).from ≤ count) →
    outcome ≡ outcome_before runs (length runs) Success →
    map (outcome_at runs) (range_with_len 0 (count + 1)) ≡ map (outcome_at runs) (range_with_len 0 count) ++ outcome ∷ []
told_on runs count outcome begun same =
    let last = outcome_since_first runs Success count (length runs) (omega arith) begun
    (λ i other from some. absurd (omega arith)) in
    map-range_with_len_more (outcome_at runs) 0 count count (omega arith)
    ∙ ap (λ one. map (outcome_at runs) (range_with_len 0 count) ++ one ∷ []) (last ∙ sym same)

-- as many more as *n*
pub told_longer : (runs : List Run) (count n : ℕ) (outcome : Outcome) →
    ((i : ℕ) (other : Run) → i < length runs → (get_or runs i other).from ≤ count) →
    outcome ≡ outcome_before runs (length runs) Success →
    map (outcome_at runs) (range_with_len 0 (count + n)) ≡ map (outcome_at runs) (range_with_len 0 count) ++ replicate n outcome
told_longer runs count zero outcome begun same = rw (add-zero, append-nil) refl
told_longer runs count (suc n) outcome begun same =
    let size : count + suc n ≡ (count + 1) + n = omega arith in
    rw size (told_longer runs (count + 1) n outcome (λ i other some. let here = begun i other some in omega arith) same
    ∙ ap (λ all. all ++ replicate n outcome) (told_on runs count outcome begun same)
    ∙ append_assoc (map (outcome_at runs) (range_with_len 0 count)) (outcome ∷ []) (replicate n outcome))

-- one more message with a run of its own
pub told_anew : (runs : List Run) (run : Run) (count : ℕ) → run.from ≡ count →
    map (outcome_at (runs ++ run ∷ [])) (range_with_len 0 (count + 1))
    ≡ map (outcome_at runs) (range_with_len 0 count) ++ run.outcome ∷ []
told_anew runs run count first =
    let there : leb run.from count ≡ true = grind (arith, nat_tests) in
    let own : outcome_at (runs ++ run ∷ []) count ≡ run.outcome = since_more runs run Success count ∙ rw there refl in
    let before = sym (fill_by_all (outcome_at (runs ++ run ∷ [])) (map (outcome_at runs) (range_with_len 0 count)) count Success
    (length-map-range_with_len (outcome_at runs) 0 count)
    (λ place some.
    let not : leb run.from place ≡ false = grind (arith, nat_tests) in
    get_or-map-range_with_len (outcome_at runs) 0 count place place Success some (omega arith)
    ∙ sym (since_more runs run Success place ∙ rw not refl))) in
    map-range_with_len_more (outcome_at (runs ++ run ∷ [])) 0 count count (omega arith)
    ∙ ap (λ one. map (outcome_at (runs ++ run ∷ [])) (range_with_len 0 count) ++ one ∷ []) own
    ∙ ap (λ all. all ++ run.outcome ∷ []) before

-- a run after the others that begins with the newest message keeps their order
pub rise_more : (runs : List Run) (run : Run) (count : ℕ) → IsNonDecreasingBy (λ run. run.from) runs →
    ((i : ℕ) (other : Run) → i < length runs → (get_or runs i other).from ≤ count) → run.from ≡ count →
    IsNonDecreasingBy (λ run. run.from) (runs ++ run ∷ [])
rise_more runs run count rise begun first =
    IsNonDecreasingBy-push (λ (run : Run). run.from) runs run rise
    (λ other some. let last = begun (length runs - 1) other (omega arith) in omega arith)

-- and none begins past the messages, of which there is one more
pub begun_more : (runs : List Run) (run : Run) (count : ℕ) →
    ((i : ℕ) (other : Run) → i < length runs → (get_or runs i other).from ≤ count) → run.from ≡ count →
    (i : ℕ) (other : Run) → i < length (runs ++ run ∷ []) → (get_or (runs ++ run ∷ []) i other).from ≤ count + 1
begun_more [] run count begun first zero other some = omega arith
begun_more [] run count begun first (suc i) other some = absurd (omega arith)
begun_more (one ∷ runs) run count begun first zero other some =
    let here = begun 0 other (omega arith) in omega arith
begun_more (one ∷ runs) run count begun first (suc i) other some =
    begun_more runs run count (λ i other some. begun (suc i) other (omega arith)) first i other (omega arith)

-- what the first of some runs come to, one more stands behind them
before_more : (runs : List Run) (run : Run) (count : ℕ) (before : Outcome) → count ≤ length runs →
    outcome_before (runs ++ run ∷ []) count before ≡ outcome_before runs count before
before_more runs run zero before within = refl
before_more runs run (suc count) before within =
    ap (λ (one : Run). one.outcome)
    (get_or_append_left runs (run ∷ []) (record { from = 0; outcome = before }) count (omega arith))

-- the last of some runs is the one behind the others
before_last : (runs : List Run) (run : Run) (before : Outcome) →
    outcome_before (runs ++ run ∷ []) (suc (length runs)) before ≡ run.outcome
before_last runs run before = grind (arith, get_or_push)

differ_at : (runs : List Run) (run : Run) → run.outcome ≢ outcome_before runs (length runs) Success →
    ((place : ℕ) → place < length runs → outcome_before runs (suc place) Success ≢ outcome_before runs place Success) →
    (place : ℕ) (early : Bool) → ltb place (length runs) ≡ early → place ≤ length runs →
    outcome_before (runs ++ run ∷ []) (suc place) Success ≢ outcome_before (runs ++ run ∷ []) place Success
differ_at runs run other differ place true test some same =
    let within : place < length runs = grind (arith, nat_tests) in
    differ place within (sym (before_more runs run (suc place) Success (omega arith)) ∙ same
    ∙ before_more runs run place Success (omega arith))
differ_at runs run other differ place false test some same = grind (arith, nat_tests, before_last, before_more)

-- a run that ended otherwise than the last keeps that each differs from the one in front of it
pub differ_more : (runs : List Run) (run : Run) → run.outcome ≢ outcome_before runs (length runs) Success →
    ((place : ℕ) → place < length runs → outcome_before runs (suc place) Success ≢ outcome_before runs place Success) →
    (place : ℕ) → place < length (runs ++ run ∷ []) →
    outcome_before (runs ++ run ∷ []) (suc place) Success ≢ outcome_before (runs ++ run ∷ []) place Success
differ_more runs run other differ place some =
    let more = length_push runs run in
    differ_at runs run other differ place (ltb place (length runs)) refl (omega arith)
