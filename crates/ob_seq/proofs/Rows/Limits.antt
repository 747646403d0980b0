-- What accepted commands leave within the limits, and the promises with it.
use Rattle.ob_seq.proofs.Words.{◌≡◌, ◌≤◌, ◌<◌, ℕ, zero, suc, Bool, true, false, List, [], ◌∷◌, ◌++◌, length, map, refl}
use Rattle.ob_seq.proofs.Words.{ap, arith, length-append, Some, None, AllByRecursion, nat_tests, sum_by-cons}
use Rattle.ob_seq.proofs.Words.{sum_by_push, take_while-cons, is_block, counted_bytes, Command, Write, RemoveBytes}
use Rattle.ob_seq.proofs.Words.{Close, Estimate, Settings, is_accepted, are_accepted}
use Rattle.ob_seq.proofs.Words.{block_bytes, byte_run, effect, rows_after, is_in_line, line, bytes_in, Row, new_row}
use Rattle.ob_seq.proofs.Words.{unread_part, counted_size, total, writes_in, Outcome, Settled, closed_row, is_close}
use Rattle.ob_seq.proofs.Words.{is_closed, promise_at}
use Rattle.std.specs.List.{All}
use Rattle.std.proofs.Common.{length-drop}
use Rattle.std.proofs.lemmas.List.Elements.{All-from_recursion, length_all_zip}
use Rattle.ob_types.specs.Limits.{greatest_total, most_writes}
use Rattle.ob_seq.specs.Rows.{FitsItsPlace}
use Rattle.ob_seq.proofs.Rows.Accepting.{kept_along_within, not_refused, open_and_fit, open_and_fit_within}
use Rattle.ob_seq.specs.Answer.{are_accepted_within, first_refusal_within, refusal_within}
use Rattle.ob_seq.proofs.Rows.EachRow.{Ends, IsKnown, each_as, each_turns, effect_turns, row_for_each_write}
use Rattle.ob_seq.proofs.Rows.EachRow.{total_turns}
use Rattle.ob_seq.proofs.Rows.History.{closed_more, rows_after_more}
use Rattle.ob_seq.proofs.Rows.Order.{IsGone, all_now_gone, each_append}

-- after a close each row is gone
close_leaves_none : (estimate : Estimate) (rows : List Row) (command : Command) → is_close command ≡ true →
    AllByRecursion IsGone (effect estimate rows command)
close_leaves_none estimate rows (Close cause) is = all_now_gone (closed_row cause) (λ row. refl) rows
close_leaves_none estimate rows command is = absurd (cc)

module _ (settings : Settings) where
  -- how messages are counted
  abbrev estimate : Estimate
  estimate = settings.estimate

  -- a row has the size that its message counts, is known, and its promise is settled if it is gone
  record IsRight (row : Row) : Type 0 where
    size : row.size ≡ counted_bytes estimate row.message
    known : IsKnown row
    ends : Ends row

  -- rows within the limits, each of them right, and gone if the buffer is closed
  record AreWithin (most : ℕ) (closed : Bool) (rows : List Row) : Type 0 where
    sum : total rows ≤ greatest_total
    count : length rows ≤ most
    right : AllByRecursion IsRight rows
    gone : closed ≡ true → AllByRecursion IsGone rows

  -- an accepted command leaves rows within the limits
  one_within : (most : ℕ) (rows : List Row) (command : Command) →
      refusal_within (Some most) estimate rows command ≡ None →
      AreWithin most false rows → AreWithin most (is_close command) (effect estimate rows command)
  one_within most rows (Write message) accepted within =
      let new = new_row estimate message in record {
        sum = grind (arith, nat_tests, sum_by_push counted_size rows new);
        count = grind (arith, nat_tests, length-append rows (new ∷ []));
        right = each_append IsRight rows (new ∷ []) within.right
            (record { size = refl; known = grind arith; ends = λ gone. absurd (cc) }, tt);
        gone = λ closed. absurd (cc);
      }
  one_within most rows command accepted within =
      let after = effect estimate rows command in
      let each = effect_turns (Unit {0}) estimate rows command (λ always. accepted) refl in record {
        sum = omega (arith, total_turns (Unit {0}) rows after each, within.sum);
        count = omega (arith, length_all_zip _ rows after each, within.count);
        right = each_turns (Unit {0}) IsRight IsRight (λ was row turns right. grind (arith, turns.ends tt)) rows after
            each within.right;
        gone = close_leaves_none estimate rows command;
      }

  -- so are the rows after a history
  abbrev IsWithin : ℕ → List Command → Type 0
  IsWithin most commands = AreWithin most (is_closed commands) (rows_after estimate commands)

  one_more_within : (most : ℕ) (earlier : List Command) (command : Command) →
      first_refusal_within (Some most) estimate earlier command ≡ None →
      IsWithin most earlier → IsWithin most (earlier ++ command ∷ [])
  one_more_within most earlier command accepted within =
      grind (arith, open_and_fit_within, rows_after_more, closed_more, one_within)

  within_after : (most : ℕ) (commands : List Command) → are_accepted_within (Some most) settings [] commands ≡ true →
      IsWithin most commands
  within_after most commands all =
      kept_along_within (Some most) settings (IsWithin most) (one_more_within most) [] commands all
      (record { sum = omega arith; count = omega arith; right = tt; gone = λ closed. tt })

  -- so under every limit on writes no more rows stand there than it allows
  pub rows_within : (most : ℕ) (commands : List Command) → are_accepted_within (Some most) settings [] commands ≡ true →
      length (rows_after estimate commands) ≤ most
  rows_within most commands all = (within_after most commands all).count

  -- no more bytes of a row in line are unread than it counts
  unread_le : (row : Row) → is_in_line row ≡ true → row.size ≡ counted_bytes estimate row.message →
      length (block_bytes (unread_part row)) ≤ counted_size row
  unread_le row here counted = grind (arith, length-drop {A = ℕ})

  -- no more bytes stand in the byte run than the rows count
  run_le : (rows : List Row) → AllByRecursion IsRight rows → bytes_in (byte_run rows) ≤ total rows
  run_le [] right = omega arith
  run_le (row ∷ rows) right =
      let rest = run_le rows right.1 in
      let one = λ (here : is_in_line row ≡ true). unread_le row here right.0.size in
      let first = take_while-cons is_block (unread_part row) (map unread_part (line rows)) in
      let bytes = sum_by-cons (λ (piece : List ℕ). length piece) (block_bytes (unread_part row)) (byte_run rows) in
      let sizes = sum_by-cons counted_size row rows in
      grind arith

  -- so under every limit on writes no more bytes stand in the byte run than may be pending
  pub run_within : (most : ℕ) (commands : List Command) → are_accepted_within (Some most) settings [] commands ≡ true →
      bytes_in (byte_run (rows_after estimate commands)) ≤ greatest_total
  run_within most commands all =
      let within = within_after most commands all in
      omega (arith, run_le (rows_after estimate commands) within.right, within.sum)

  -- the promise of a row fits its place
  fits : (row : Row) → IsRight row → FitsItsPlace row
  fits row right = grind arith

  -- the promise of a row that is gone is settled
  settled_gone : (rows : List Row) (id : ℕ) → id < length rows → AllByRecursion IsRight rows →
      AllByRecursion IsGone rows → (outcome : Outcome) × (promise_at rows id ≡ Some (Settled outcome))
  settled_gone [] id within right gone = absurd (omega (arith, within))
  settled_gone (row ∷ rows) zero within right gone =
      let settled = rw gone.0.place at (fits row right.0) in (settled.0, ap Some settled.1)
  settled_gone (row ∷ rows) (suc id) within right gone =
      settled_gone rows id (omega (arith, within)) right.1 gone.1

  module _ (commands : List Command) (all : are_accepted settings [] commands ≡ true) where
    abbrev within : IsWithin most_writes commands
    within = within_after most_writes commands all

    -- after accepted commands no more than 4294967295 bytes are pending
    pub total_within : total (rows_after estimate commands) ≤ greatest_total
    total_within = within.sum

    -- at most 1048576 of them are writes
    pub writes_within : writes_in commands ≤ most_writes
    writes_within = omega (arith, row_for_each_write estimate commands, within.count)

    -- and a removal of bytes that is accepted next is of no more than are pending
    pub removal_within : (n : ℕ) → is_accepted settings commands (RemoveBytes n) ≡ true → n ≤ greatest_total
    removal_within n accepted =
        let rows = rows_after estimate commands in
        let fits = open_and_fit estimate commands (RemoveBytes n)
        (not_refused settings commands (RemoveBytes n) accepted) in
        let few : n ≤ bytes_in (byte_run rows) = grind (arith, nat_tests, fits.1) in
        omega (arith, run_le rows within.right, total_within)

    -- each promise fits its place
    pub rows_fit : All FitsItsPlace (rows_after estimate commands)
    rows_fit =
        let rows = rows_after estimate commands in
        All-from_recursion FitsItsPlace rows (each_as IsRight FitsItsPlace fits rows within.right)

    -- once the buffer is closed each promise that it gave is settled
    pub closed_is_settled : (id : ℕ) → is_closed commands ≡ true → id < writes_in commands →
        (outcome : Outcome) × (promise_at (rows_after estimate commands) id ≡ Some (Settled outcome))
    closed_is_settled id closed given =
        settled_gone (rows_after estimate commands) id (omega (arith, given, row_for_each_write estimate commands))
        within.right (within.gone closed)
