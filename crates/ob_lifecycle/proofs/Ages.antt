-- What one more command does to each row: none comes to be pending again, and only a cancellation takes a promise back.
use Rattle.ob_seq.proofs.Words.{◌≡◌, ◌≤◌, ℕ, zero, suc, Bool, true, false, List, [], ◌∷◌, map, refl, ap, arith, cond, ltb}
use Rattle.ob_seq.proofs.Words.{is_write, Command, Write, Flush, Remove, RemoveWith, RemoveBytes, Progress, Cancel, FailFlushed}
use Rattle.ob_seq.proofs.Words.{Close, UserBit, SetMarks, Estimate, Outcome, Success, Failed}
use Rattle.ob_seq.proofs.Words.{bytes_left_over, whole_rows, closed_row, effect, failed_row, flushed_row}
use Rattle.ob_seq.proofs.Words.{progressed_row, skipped_row, taken_row, with_cancelled, with_first, with_front}
use Rattle.ob_seq.proofs.Words.{with_skipped, counted_size, total, is_in_line, Row}
use Rattle.std.specs.List.{AllZip}
use Rattle.std.specs.Prelude.{count_by}
use Rattle.std.proofs.lemmas.List.Sums.{sum_by-cons}
use Rattle.ob_seq.specs.Rows.{is_unflushed}
use Rattle.ob_seq.proofs.Rows.Order.{first_more, first_none, sent}
use Rattle.ob_types.specs.Traits.{traits_of}
use Rattle.ob_lifecycle.specs.Events.{is_pending}

-- whether a command is a cancellation
abbrev pub cancels : Command → Bool
cancels command = (traits_of command).cancel

never : true ≡ false → ⊥
never is = cc

-- one, if a row is pending
abbrev pub one_if : Row → ℕ
one_if row = cond (is_pending row) 1 0

-- what one command may do to one row; unless it is a cancellation, it leaves the promise of one that no flush has reached
pub record Ages (Other : Type 0) (was row : Row) : Type 0 where
  pub size : row.size ≡ was.size
  pub fewer : is_pending row ≡ true → is_pending was ≡ true
  pub fresh : Other → is_unflushed row.place ≡ true → is_unflushed was.place ≡ true
  pub promise : Other → is_unflushed row.place ≡ true → row.promise ≡ was.promise

module _ (Other : Type 0) where
  same : (row : Row) → Ages Other row row
  same row = grind arith

  taken : (outcome : Outcome) (row : Row) → is_in_line row ≡ true → Ages Other row (taken_row outcome row)
  taken outcome row here = grind arith

  -- each row ages so
  abbrev pub AllAge : List Row → List Row → Type 0
  AllAge before after = AllZip (Ages Other) before after

  same_rows : (rows : List Row) → AllAge rows rows
  same_rows [] = tt
  same_rows (row ∷ rows) = (same row, same_rows rows)

  both_rows : (before between after : List Row) → AllAge before between → AllAge between after → AllAge before after
  both_rows [] [] after first second = second
  both_rows [] (row ∷ between) after first second = absurd first
  both_rows (was ∷ before) [] after first second = absurd first
  both_rows (was ∷ before) (row ∷ between) [] first second = absurd second
  both_rows (was ∷ before) (row ∷ between) (now ∷ after) first second =
      (grind (arith, first.0, second.0), both_rows before between after first.1 second.1)

  map_rows : (change : Row → Row) → ((row : Row) → Ages Other row (change row)) → (rows : List Row) →
      AllAge rows (map change rows)
  map_rows change turn [] = tt
  map_rows change turn (row ∷ rows) = (turn row, map_rows change turn rows)

  front_row : (change : Row → Row) → ((row : Row) → is_in_line row ≡ true → Ages Other row (change row)) →
      (rows : List Row) → AllAge rows (with_front change rows)
  front_row change turn [] = tt
  front_row change turn (row ∷ rows) = grind (arith, turn row, same row, same_rows rows, front_row change turn rows)

  first_rows : (count : ℕ) (rows : List Row) → AllAge rows (with_first count sent rows)
  first_rows zero rows = rw (first_none rows) (same_rows rows)
  first_rows (suc count) rows =
      rw (first_more count rows)
      (both_rows _ _ _ (front_row sent (taken Success) rows) (first_rows count (with_front sent rows)))

  cancelled_row : (id : ℕ) → (Other → ⊥) → (rows : List Row) → AllAge rows (with_cancelled id rows)
  cancelled_row id never [] = tt
  cancelled_row zero never (row ∷ rows) = (grind (arith, never), same_rows rows)
  cancelled_row (suc id) never (row ∷ rows) = (same row, cancelled_row id never rows)

  -- a command that is no write ages each row
  pub effect_ages : (estimate : Estimate) (rows : List Row) (command : Command) → (Other → cancels command ≡ false) →
      is_write command ≡ false → AllAge rows (effect estimate rows command)
  effect_ages estimate rows (Write message) fits other = absurd (cc)
  effect_ages estimate rows Flush fits other = map_rows flushed_row (λ row. grind arith) rows
  effect_ages estimate rows Remove fits other = front_row (taken_row Success) (taken Success) rows
  effect_ages estimate rows (RemoveWith cause) fits other = front_row (taken_row (Failed cause)) (taken (Failed cause)) rows
  effect_ages estimate rows (RemoveBytes n) fits other =
      let sent = with_first (whole_rows n rows) sent rows in
      let left = bytes_left_over n rows in
      both_rows rows sent (with_skipped left sent) (first_rows (whole_rows n rows) rows)
      (elim (ltb 0 left) as (λ (some : Bool). AllAge sent (cond some (with_front (skipped_row left) sent) sent)) [
        | true ↦ front_row (skipped_row left) (λ row is. grind arith) sent
        | false ↦ same_rows sent
      ])
  effect_ages estimate rows (Progress n) fits other = front_row (progressed_row n) (λ row is. grind arith) rows
  effect_ages estimate rows (Cancel id) fits other = cancelled_row id.0 (λ o. never (fits o)) rows
  effect_ages estimate rows (FailFlushed cause notify) fits other = map_rows (failed_row cause) (λ row. grind arith) rows
  effect_ages estimate rows (Close cause) fits other = map_rows (closed_row cause) (λ row. grind arith) rows
  effect_ages estimate rows (UserBit index writable) fits other = same_rows rows
  effect_ages estimate rows (SetMarks marks) fits other = same_rows rows

  -- so fewer are pending, and fewer bytes
  pub fewer_messages : (before after : List Row) → AllAge before after → count_by is_pending after ≤ count_by is_pending before
  fewer_messages [] [] each = omega arith
  fewer_messages [] (row ∷ after) each = absurd each
  fewer_messages (was ∷ before) [] each = absurd each
  fewer_messages (was ∷ before) (row ∷ after) each =
      let rest = fewer_messages before after each.1 in
      let one : one_if row ≤ one_if was = grind (arith, each.0.fewer) in
      omega (arith, one, rest, sum_by-cons one_if was before, sum_by-cons one_if row after)

  pub fewer_bytes : (before after : List Row) → AllAge before after → total after ≤ total before
  fewer_bytes [] [] each = omega arith
  fewer_bytes [] (row ∷ after) each = absurd each
  fewer_bytes (was ∷ before) [] each = absurd each
  fewer_bytes (was ∷ before) (row ∷ after) each =
      let rest = fewer_bytes before after each.1 in
      let one : counted_size row ≤ counted_size was = grind (arith, each.0.size, each.0.fewer) in
      omega (arith, one, rest, sum_by-cons counted_size was before, sum_by-cons counted_size row after)

-- rows of which just as much is pending
pub record Alike (was row : Row) : Type 0 where
  pub size : row.size ≡ was.size
  pub pending : is_pending row ≡ is_pending was

abbrev pub AllAlike : List Row → List Row → Type 0
AllAlike before after = AllZip Alike before after

pub alike_rows : (rows : List Row) → AllAlike rows rows
alike_rows [] = tt
alike_rows (row ∷ rows) = (grind arith, alike_rows rows)

pub alike_front : (change : Row → Row) → ((row : Row) → Alike row (change row)) → (rows : List Row) → AllAlike rows (with_front change rows)
alike_front change turn [] = tt
alike_front change turn (row ∷ rows) = grind (arith, turn row, alike_rows rows, alike_front change turn rows)

pub alike_cancelled : (id : ℕ) (rows : List Row) → AllAlike rows (with_cancelled id rows)
alike_cancelled id [] = tt
alike_cancelled zero (row ∷ rows) = (grind arith, alike_rows rows)
alike_cancelled (suc id) (row ∷ rows) = (grind arith, alike_cancelled id rows)

pub as_many_messages : (before after : List Row) → AllAlike before after → count_by is_pending after ≡ count_by is_pending before
as_many_messages [] [] each = refl
as_many_messages [] (row ∷ after) each = absurd each
as_many_messages (was ∷ before) [] each = absurd each
as_many_messages (was ∷ before) (row ∷ after) each =
    let rest = as_many_messages before after each.1 in
    let one : one_if row ≡ one_if was = ap (λ b. cond b 1 0) each.0.pending in
    omega (arith, one, rest, sum_by-cons one_if was before, sum_by-cons one_if row after)

pub as_many_bytes : (before after : List Row) → AllAlike before after → total after ≡ total before
as_many_bytes [] [] each = refl
as_many_bytes [] (row ∷ after) each = absurd each
as_many_bytes (was ∷ before) [] each = absurd each
as_many_bytes (was ∷ before) (row ∷ after) each =
    let rest = as_many_bytes before after each.1 in
    let one : counted_size row ≡ counted_size was = grind (arith, each.0.size, each.0.pending) in
    omega (arith, one, rest, sum_by-cons counted_size was before, sum_by-cons counted_size row after)
