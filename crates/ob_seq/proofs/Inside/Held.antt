-- What a buffer holds, by the rows and by their parts, from the opening on.
use Rattle.ob_seq.proofs.Words.{[], ◌≡◌, false, List, ◌∷◌, ◌++◌, length, map, sym, ap, ◌∙◌, refl, arith, AllByRecursion}
use Rattle.ob_seq.proofs.Words.{length-append, length-map, Marks, Command, PromiseState, Settings, Row, line, unflushed}
use Rattle.ob_seq.proofs.Words.{total, effect, rows_after, is_close, is_closed, marks_after, Moment, moments_of}
use Rattle.ob_seq.proofs.Words.{word_after, entry_of, Pending, Leaves, pending_total, unflushed_id, front_id, ℕ, ◌+◌}
use Rattle.ob_seq.proofs.Words.{sum_by-cons, counted_size, sum_of, PendingEntry, whole, filter, messages_to_send}
use Rattle.ob_seq.proofs.Words.{is_flushed, unread_part}
use Rattle.ob_seq.proofs.Rows.History.{closed_more, rows_after_more}
use Rattle.ob_seq.proofs.Word.{IsQuiet, marks_more, marks_with, past_after, word_from, word_is_from, word_is_from_more}
use Rattle.ob_seq.proofs.Word.{word_at_start}
use Rattle.ob_seq.proofs.Rows.Order.{IsGone, IsStanding, IsFresh, layout_of, line_of_parts, unflushed_of_parts}
use Rattle.ob_seq.specs.Unsent.{nothing_unsent}

-- the entries in line and those that no flush has reached count together what the rows count
pub sum_of_rows : (rows : List Row) →
    sum_of (map entry_of (line rows)) + sum_of (map entry_of (unflushed rows)) ≡ total rows
sum_of_rows [] = refl
sum_of_rows (row ∷ rows) =
    let size : PendingEntry → ℕ = λ entry. entry.size in
    let rest = sum_of_rows rows in
    let in_line = sum_by-cons size (entry_of row) (map entry_of (line rows)) in
    let fresh = sum_by-cons size (entry_of row) (map entry_of (unflushed rows)) in
    let all = sum_by-cons counted_size row rows in
    grind arith

-- the promise of a row
abbrev pub promise_of : Row → PromiseState
promise_of row = row.promise

-- a buffer holds these rows
pub record Holds (buffer : Pending) (rows : List Row) : Type 0 where
  pub line : buffer.line ≡ map entry_of (line rows)
  pub unflushed : buffer.unflushed ≡ map entry_of (unflushed rows)
  pub promises : buffer.promises ≡ map promise_of rows

-- a buffer holds rows of which some are gone, some stand in line and some are fresh
pub record Held (buffer : Pending) (gone standing fresh : List Row) : Type 0 where
  pub line : buffer.line ≡ map entry_of standing
  pub unflushed : buffer.unflushed ≡ map entry_of fresh
  pub promises : buffer.promises ≡ map promise_of (gone ++ (standing ++ fresh))
  pub all_gone : AllByRecursion IsGone gone
  pub all_standing : AllByRecursion IsStanding standing
  pub all_fresh : AllByRecursion IsFresh fresh

-- what a buffer holds that commands leave
pub held_of : (buffer : Pending) (commands : List Command) → Leaves buffer commands →
    (let layout = layout_of buffer.settings.estimate commands in
    Held buffer layout.gone layout.standing layout.fresh)
held_of buffer commands leaves =
    let l = layout_of buffer.settings.estimate commands in record {
      line = rw (l.is, line_of_parts l.gone l.standing l.fresh l.all_gone l.all_standing l.all_fresh) at leaves.line;
      unflushed = rw (
        l.is,
        unflushed_of_parts l.gone l.standing l.fresh l.all_gone l.all_standing l.all_fresh,
      ) at leaves.unflushed;
      promises = rw l.is at leaves.promises;
      all_gone = l.all_gone;
      all_standing = l.all_standing;
      all_fresh = l.all_fresh;
    }

module _ (buffer : Pending) (gone standing fresh : List Row) (held : Held buffer gone standing fresh) where
  pub held_rows : Holds buffer (gone ++ (standing ++ fresh))
  held_rows = record {
    line = rw (line_of_parts gone standing fresh held.all_gone held.all_standing held.all_fresh) held.line;
    unflushed =
        rw (unflushed_of_parts gone standing fresh held.all_gone held.all_standing held.all_fresh) held.unflushed;
    promises = held.promises;
  }

  pub line_count : length buffer.line ≡ length standing
  line_count = rw (held.line, length-map)

  pub fresh_count : length buffer.unflushed ≡ length fresh
  fresh_count = rw (held.unflushed, length-map)

  -- the front's id counts the rows that are gone
  pub front_id_is : front_id buffer ≡ length gone
  front_id_is = rw (held.promises, line_count, fresh_count, length-map) (omega (arith, length-append {A = Row}))

  -- and that of the first unflushed entry also those in line
  pub unflushed_id_is : unflushed_id buffer ≡ length (gone ++ standing)
  unflushed_id_is = rw (held.promises, fresh_count, length-map) (omega (arith, length-append {A = Row}))

  -- the bytes pending are those of the rows
  pub pending_total_is : pending_total buffer ≡ total (gone ++ (standing ++ fresh))
  pending_total_is = rw (held_rows.line, held_rows.unflushed) (sum_of_rows (gone ++ (standing ++ fresh)))

-- what a buffer was opened with, and the marks in force
abbrev pub opening : Pending → Settings × Marks
opening buffer = (buffer.settings, buffer.marks)

-- what it was opened with, and the marks in force after one more command
abbrev pub opening_with : Command → Pending → Settings × Marks
opening_with command old = (old.settings, marks_with command old.marks)

-- these are the marks in force after the history with the command
opening_more : (buffer : Pending) (commands : List Command) (command : Command) → Leaves buffer commands →
    opening_with command buffer
    ≡ (buffer.settings, marks_after buffer.settings (commands ++ command ∷ []))
opening_more buffer commands command leaves = rw (leaves.marks, marks_more buffer.settings commands command)

-- a buffer that holds the rows of a history, and has their word, is what its commands leave
left_by_rows : (buffer : Pending) (settings : Settings) (commands : List Command) →
    opening buffer ≡ (settings, marks_after settings commands) → buffer.closed ≡ is_closed commands →
    Holds buffer (rows_after settings.estimate commands) → buffer.word ≡ word_after settings commands → Leaves buffer commands
left_by_rows buffer settings commands opened closed holds word =
    let same = ap (λ (parts : Settings × Marks). parts.0) opened in record {
      closed = closed;
      marks = rw same (ap (λ (parts : Settings × Marks). parts.1) opened);
      line = rw same holds.line;
      unflushed = rw same holds.unflushed;
      promises = rw same holds.promises;
      word = rw same word;
    }

module _ (old new : Pending) (commands : List Command) (command : Command) (leaves : Leaves old commands)
    (unclosed : old.closed ≡ false) where
  -- a buffer is what the commands with one more leave that holds the rows after it, and has their word
  pub left_by_more : opening new ≡ opening_with command old → new.closed ≡ is_close command →
      Holds new (effect old.settings.estimate (rows_after old.settings.estimate commands) command) →
      new.word ≡ word_after old.settings (commands ++ command ∷ []) → Leaves new (commands ++ command ∷ [])
  left_by_more opened closed holds =
      grind (arith, left_by_rows, opening_more, closed_more, rows_after_more)

  -- the same, by the parts of those rows
  pub left_by_parts : (gone standing fresh : List Row) → opening new ≡ opening_with command old → new.closed ≡ is_close command →
      Held new gone standing fresh →
      effect old.settings.estimate (rows_after old.settings.estimate commands) command ≡ gone ++ (standing ++ fresh) →
      new.word ≡ word_after old.settings (commands ++ command ∷ []) → Leaves new (commands ++ command ∷ [])
  left_by_parts gone standing fresh opened closed held are =
      left_by_more opened closed (rw are (held_rows new gone standing fresh held))

module _ (buffer : Pending) (commands : List Command) (leaves : Leaves buffer commands) where
  -- the word of a buffer, by what its history leaves for it
  pub word_by_past : buffer.word ≡ word_from buffer.marks (past_after buffer.settings commands) []
  word_by_past = leaves.word ∙ word_is_from buffer.settings commands buffer.marks

  -- and its word after one more command, by the moments of that
  pub word_at_end : (command : Command) (moments : List Moment) → IsQuiet command →
      moments_of buffer.settings.estimate (rows_after buffer.settings.estimate commands) command ≡ moments →
      word_from buffer.marks (past_after buffer.settings commands) moments
      ≡ word_after buffer.settings (commands ++ command ∷ [])
  word_at_end command moments quiet same =
      rw (leaves.marks, ← same) (sym (word_is_from_more buffer.settings commands command quiet))

pub leaves_at_start : (settings : Settings) → Leaves (whole [] (nothing_unsent settings)) []
leaves_at_start settings =
    let word = sym (word_at_start settings) in
    record { closed = refl; marks = refl; line = refl; unflushed = refl; promises = refl; word = word }

-- the messages of the line are those of the flushed rows
pub to_send_is : (rows : List Row) →
    messages_to_send (map entry_of (line rows)) ≡ map unread_part (filter (λ row. is_flushed row.place) rows)
to_send_is [] = refl
to_send_is (row ∷ rows) = let rest = to_send_is rows in grind arith
