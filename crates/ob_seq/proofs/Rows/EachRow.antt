-- What one more command does to each row, as one relation between the row before it and after.
use Rattle.ob_seq.proofs.Words.{◌≡◌, ◌≤◌, ◌+◌, ℕ, zero, suc, Bool, true, false, List, [], ◌∷◌, ◌++◌, length, map, refl}
use Rattle.ob_seq.proofs.Words.{arith, cond, ltb, ◌⊎◌, inl, inr, None, is_some, Option, Some, fold, is_write, Command}
use Rattle.ob_seq.proofs.Words.{Write, Flush, Remove, RemoveWith, RemoveBytes, Progress, Cancel, FailFlushed, Close}
use Rattle.ob_seq.proofs.Words.{UserBit, SetMarks, Estimate, Cause, Outcome, Success, Failed, refusal_of, outcome_of, promise_at}
use Rattle.ob_seq.proofs.Words.{bytes_left_over, whole_rows, closed_row, effect, failed_row, flushed_row}
use Rattle.ob_seq.proofs.Words.{progressed_row, skipped_row, taken_row, with_cancelled, with_first, with_front}
use Rattle.ob_seq.proofs.Words.{with_skipped, front, counted_size, total, is_in_line, Row, Gone, new_row}
use Rattle.ob_seq.proofs.Words.{AllByRecursion, PromiseState, rows_after, writes_in, length-append, sum_by-cons}
use Rattle.std.specs.List.{AllZip}
use Rattle.std.proofs.lemmas.List.Elements.{length_all_zip}
use Rattle.ob_seq.proofs.Rows.Order.{IsFresh, IsGone, IsStanding, Layout, each_append, first_more, first_none}
use Rattle.ob_seq.proofs.Rows.Order.{layout_of, sent}
pub use Rattle.ob_seq.proofs.Rows.Order.{taken_back}

-- the outcome with which a promise is settled, if there is such a promise and it is
abbrev pub outcome_in : Option PromiseState → Option Outcome
outcome_in None = None
outcome_in (Some state) = outcome_of state

abbrev pub outcome_at : List Row → ℕ → Option Outcome
outcome_at rows id = outcome_in (promise_at rows id)

-- a promise that was settled stays so, with its outcome
abbrev pub StaysSettled : Option Outcome → Option Outcome → Type 0
StaysSettled was now = (outcome : Outcome) → was ≡ Some outcome → now ≡ Some outcome

-- each promise of rows that was settled stays so
abbrev pub StaySettled : List Row → List Row → Type 0
StaySettled before after = (id : ℕ) → StaysSettled (outcome_at before id) (outcome_at after id)

-- a row as it stands in each history
abbrev pub IsKnown : Row → Type 0
IsKnown row = IsGone row ⊎ (IsStanding row ⊎ IsFresh row)

-- the promise of a row that is gone is settled
abbrev pub Ends : Row → Type 0
Ends row = row.place ≡ Gone → is_some (outcome_of row.promise) ≡ true

-- what one command may do to one row; if it is accepted, it leaves no promise open of a row that is then gone
pub record Turns (Accepted : Type 0) (was row : Row) : Type 0 where
  pub message : row.message ≡ was.message
  pub size : row.size ≡ was.size
  pub counts : counted_size row ≤ counted_size was
  pub known : IsKnown was → IsKnown row
  pub stays : IsKnown was → StaysSettled (outcome_of was.promise) (outcome_of row.promise)
  pub ends : Accepted → IsKnown was → Ends was → Ends row

module _ (Accepted : Type 0) where
  same : (row : Row) → Turns Accepted row row
  same row = grind arith

  taken : (outcome : Outcome) (row : Row) → is_in_line row ≡ true → Turns Accepted row (taken_row outcome row)
  taken outcome row here = grind arith

  -- each row turns so
  abbrev AllTurn : List Row → List Row → Type 0
  AllTurn before after = AllZip (Turns Accepted) before after

  same_rows : (rows : List Row) → AllTurn rows rows
  same_rows [] = tt
  same_rows (row ∷ rows) = (same row, same_rows rows)

  both_rows : (before between after : List Row) → AllTurn before between → AllTurn between after → AllTurn before after
  both_rows [] [] after first second = second
  both_rows [] (row ∷ between) after first second = absurd first
  both_rows (was ∷ before) [] after first second = absurd first
  both_rows (was ∷ before) (row ∷ between) [] first second = absurd second
  both_rows (was ∷ before) (row ∷ between) (now ∷ after) first second =
      (grind (arith, first.0, second.0), both_rows before between after first.1 second.1)

  map_rows : (change : Row → Row) → ((row : Row) → Turns Accepted row (change row)) → (rows : List Row) →
      AllTurn rows (map change rows)
  map_rows change turn [] = tt
  map_rows change turn (row ∷ rows) = (turn row, map_rows change turn rows)

  front_row : (change : Row → Row) → ((row : Row) → is_in_line row ≡ true → Turns Accepted row (change row)) →
      (rows : List Row) → AllTurn rows (with_front change rows)
  front_row change turn [] = tt
  front_row change turn (row ∷ rows) =
      grind (arith, turn row, same row, same_rows rows, front_row change turn rows)

  first_rows : (count : ℕ) (rows : List Row) → AllTurn rows (with_first count sent rows)
  first_rows zero rows = rw (first_none rows) (same_rows rows)
  first_rows (suc count) rows =
      rw (first_more count rows)
      (both_rows _ _ _ (front_row sent (taken Success) rows) (first_rows count (with_front sent rows)))

  cancelled_row : (id : ℕ) (rows : List Row) → AllTurn rows (with_cancelled id rows)
  cancelled_row id [] = tt
  cancelled_row zero (row ∷ rows) = (grind arith, same_rows rows)
  cancelled_row (suc id) (row ∷ rows) = (same row, cancelled_row id rows)

  -- with no front nothing stands in line
  closed_rows : (cause : Cause) (rows : List Row) → (Accepted → is_some (front rows) ≡ false) →
      AllTurn rows (map (closed_row cause) rows)
  closed_rows cause [] none = tt
  closed_rows cause (row ∷ rows) none =
      (grind arith, closed_rows cause rows (λ accepted. grind (arith, none accepted)))

  -- a command that is no write turns each row
  pub effect_turns : (estimate : Estimate) (rows : List Row) (command : Command) →
      (Accepted → refusal_of estimate rows command ≡ None) → is_write command ≡ false →
      AllTurn rows (effect estimate rows command)
  effect_turns estimate rows (Write message) fits other = absurd (cc)
  effect_turns estimate rows Flush fits other = map_rows flushed_row (λ row. grind arith) rows
  effect_turns estimate rows Remove fits other = front_row (taken_row Success) (taken Success) rows
  effect_turns estimate rows (RemoveWith cause) fits other =
      front_row (taken_row (Failed cause)) (taken (Failed cause)) rows
  effect_turns estimate rows (RemoveBytes n) fits other =
      let sent = with_first (whole_rows n rows) sent rows in
      let left = bytes_left_over n rows in
      both_rows rows sent (with_skipped left sent) (first_rows (whole_rows n rows) rows)
      (elim (ltb 0 left) as (λ (some : Bool). AllTurn sent (cond some (with_front (skipped_row left) sent) sent)) [
        | true ↦ front_row (skipped_row left) (λ row is. grind arith) sent
        | false ↦ same_rows sent
      ])
  effect_turns estimate rows (Progress n) fits other = front_row (progressed_row n) (λ row is. grind arith) rows
  effect_turns estimate rows (Cancel id) fits other = cancelled_row id.0 rows
  effect_turns estimate rows (FailFlushed cause notify) fits other =
      map_rows (failed_row cause) (λ row. grind arith) rows
  effect_turns estimate rows (Close cause) fits other =
      closed_rows cause rows (λ accepted. grind (arith, fits accepted))
  effect_turns estimate rows (UserBit index writable) fits other = same_rows rows
  effect_turns estimate rows (SetMarks marks) fits other = same_rows rows

  -- what each turn makes of a row, it makes of all
  pub each_turns : (P Q : Row → Type 0) → ((was row : Row) → Turns Accepted was row → P was → Q row) →
      (before after : List Row) → AllTurn before after → AllByRecursion P before → AllByRecursion Q after
  each_turns P Q turn [] [] each all = tt
  each_turns P Q turn [] (row ∷ after) each all = absurd each
  each_turns P Q turn (was ∷ before) [] each all = tt
  each_turns P Q turn (was ∷ before) (row ∷ after) each all =
      (turn was row each.0 all.0, each_turns P Q turn before after each.1 all.1)

  -- and rows count together no more
  pub total_turns : (before after : List Row) → AllTurn before after → total after ≤ total before
  total_turns [] [] each = omega arith
  total_turns [] (row ∷ after) each = absurd each
  total_turns (was ∷ before) [] each = absurd each
  total_turns (was ∷ before) (row ∷ after) each =
      let one = each.0.counts in
      let rest = total_turns before after each.1 in
      omega (arith, sum_by-cons counted_size was before, sum_by-cons counted_size row after)

-- what is settled stays so
stay_settled : (before after : List Row) → AllTurn ⊥ before after → AllByRecursion IsKnown before →
    StaySettled before after
stay_settled [] after each known id = λ outcome is. absurd (cc)
stay_settled (was ∷ before) [] each known id = absurd each
stay_settled (was ∷ before) (row ∷ after) each known zero = each.0.stays known.0
stay_settled (was ∷ before) (row ∷ after) each known (suc id) = stay_settled before after each.1 known.1 id

stay_written : (rows : List Row) (row : Row) → StaySettled rows (rows ++ row ∷ [])
stay_written [] row id = λ outcome is. absurd (cc)
stay_written (first ∷ rows) row zero = λ outcome is. is
stay_written (first ∷ rows) row (suc id) = stay_written rows row id

pub each_as : (P Q : Row → Type 0) → ((row : Row) → P row → Q row) → (rows : List Row) → AllByRecursion P rows →
    AllByRecursion Q rows
each_as P Q turn [] all = tt
each_as P Q turn (row ∷ rows) all = (turn row all.0, each_as P Q turn rows all.1)

-- each row of a layout is known
known_of : (rows : List Row) → Layout rows → AllByRecursion IsKnown rows
known_of rows l =
    rw l.is (each_append IsKnown l.gone (l.standing ++ l.fresh)
    (each_as IsGone IsKnown (λ row away. inl away) l.gone l.all_gone) (each_append IsKnown l.standing l.fresh
    (each_as IsStanding IsKnown (λ row stands. inr (inl stands)) l.standing l.all_standing)
    (each_as IsFresh IsKnown (λ row fresh. inr (inr fresh)) l.fresh l.all_fresh)))

-- each of rows turns so, whether the command is accepted or not
abbrev pub Shrink : List Row → List Row → Type 0
Shrink before after = AllTurn ⊥ before after

-- a command that is no write leaves as many rows, and none of them counts more
pub effect_shrinks : (estimate : Estimate) (rows : List Row) (command : Command) → is_write command ≡ false →
    Shrink rows (effect estimate rows command)
effect_shrinks estimate rows command other = effect_turns ⊥ estimate rows command (λ never. absurd never) other

-- after each history one more command keeps settled what is
pub effect_stays : (estimate : Estimate) (earlier : List Command) (command : Command) →
    StaySettled (rows_after estimate earlier) (effect estimate (rows_after estimate earlier) command)
effect_stays estimate earlier (Write message) = stay_written (rows_after estimate earlier) (new_row estimate message)
effect_stays estimate earlier command =
    let rows = rows_after estimate earlier in
    stay_settled rows (effect estimate rows command) (effect_shrinks estimate rows command refl)
    (known_of rows (layout_of estimate earlier))

-- one more command brings a row if it is a write
length_of_effect : (estimate : Estimate) (rows : List Row) (command : Command) →
    length (effect estimate rows command) ≡ length rows + cond (is_write command) 1 0
length_of_effect estimate rows (Write message) = length-append rows (new_row estimate message ∷ [])
length_of_effect estimate rows command =
    let same = length_all_zip _ rows (effect estimate rows command) (effect_shrinks estimate rows command refl) in
    omega arith

length_along : (estimate : Estimate) (rows : List Row) (commands : List Command) →
    length (fold (effect estimate) rows commands) ≡ length rows + writes_in commands
length_along estimate rows [] = omega arith
length_along estimate rows (command ∷ commands) =
    let one = length_of_effect estimate rows command in
    let rest = length_along estimate (effect estimate rows command) commands in
    let more = sum_by-cons (λ (command : Command). cond (is_write command) 1 0) command commands in
    omega (arith, one, rest, more)

-- there is one row for each write
pub row_for_each_write : (estimate : Estimate) (commands : List Command) →
    length (fold (effect estimate) [] commands) ≡ writes_in commands
row_for_each_write estimate commands = let along = length_along estimate [] commands in omega arith
