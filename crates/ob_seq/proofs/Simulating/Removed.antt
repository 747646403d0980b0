-- Rows taken away from the front of the line: a removal of one or by bytes, a failing and a close do what their
-- commands say.
use Rattle.std.proofs.lemmas.List.{take_at, drop_at, nil_from_length}
use Rattle.std.proofs.lemmas.Simd.{map-map}
use Rattle.ob_seq.proofs.Words.{◌≡◌, ℕ, Bool, true, false, List, [], ◌∷◌, ◌++◌, length, map, refl, sym, ap, ◌∙◌, ltb}
use Rattle.ob_seq.proofs.Words.{◌+◌, append_assoc, append-nil, arith, None, is_some, AllByRecursion, nat_tests}
use Rattle.ob_seq.proofs.Words.{change_between, Estimate, Command, Remove, RemoveWith, Outcome, Success, Failed, Cause}
use Rattle.ob_seq.proofs.Words.{Reply, Yes, Row, front, effect, taken_row, with_front, moments_along, is_close}
use Rattle.ob_seq.proofs.Words.{entry_of, Pending, Leaves, front_taken, front_id, entry_settlements, Option}
use Rattle.ob_seq.proofs.Words.{marks_set_by, times, ◌≤◌, take, drop, cond, Some, length-take-le, take-append-drop}
use Rattle.ob_seq.proofs.Words.{map-append, length-map, RemoveBytes, Count, Cut, bytes_in, byte_run, whole_rows}
use Rattle.ob_seq.proofs.Words.{bytes_left_over, rows_after, reply_of, blocks_left, bytes_reply, cut_of, whole_cut}
use Rattle.ob_seq.proofs.Words.{FailFlushed, line, failed_row, failing_step, suc, Marks, Close, unflushed, counted_size}
use Rattle.ob_seq.proofs.Words.{total, failed, closed_row, Moment, moment_of, outcome_of, refusal_of, settlement}
use Rattle.ob_seq.proofs.Words.{settlements_from, closed_pending, closing_reply, failures, unflushed_id, is_waiting}
use Rattle.ob_seq.specs.Answer.{answer_of, refusal_within}
use Rattle.ob_seq.specs.State.{gives_notice}
use Rattle.ob_seq.specs.Steps.Commands.{front_removed, removal_reply, removal_step, front_skipped, bytes_removed}
use Rattle.ob_seq.specs.Steps.Commands.{failing_reply, line_failed, closing_step}
use Rattle.ob_seq.specs.Steps.Step.{is_first_voided}
use Rattle.ob_seq.proofs.Rows.Fronts.{Carries, carried, rows_of, some_front}
use Rattle.ob_seq.proofs.Inside.Held.{Held, front_id_is, held_of, word_by_past, line_count, promise_of, unflushed_id_is}
use Rattle.ob_seq.proofs.Word.{IsQuiet, past_after, Past, word_from, word_from_more}
use Rattle.ob_seq.proofs.Rows.Order.{IsStanding, with_front_gone, with_front_fresh, with_front_standing, layout_of}
use Rattle.ob_seq.proofs.Rows.Order.{IsGone, each_append, failed_parts, IsFresh, all_now_gone, stay_by}
use Rattle.ob_seq.proofs.Rows.RowByRow.{all_taken, settlements_of_taken, with_first_sent, all_taken_gone}
use Rattle.ob_seq.proofs.Rows.RowByRow.{moments_of_sent}
use Rattle.ob_seq.proofs.Simulating.Simulation.{Simulates}
use Rattle.ob_seq.proofs.Inside.Taken.{rows_skipped, settlements_of_skipped, skipped_held, skipped_opening}
use Rattle.ob_seq.proofs.Inside.Taken.{skipped_same, with_skipped_is, moments_of_skipped}
use Rattle.ob_seq.proofs.Inside.Steps.{settings_of_times}

-- the command asks nothing of a user bit, sets no marks and does not close, and its falls are with or without notice
pub record IsPlain (command : Command) (notice : Bool) : Type 0 where
  pub quiet : IsQuiet command
  pub no_marks : marks_set_by command ≡ None
  pub no_close : is_close command ≡ false
  pub notice_is : gives_notice command ≡ notice

-- a buffer that takes entries off its line and skips bytes of the next carries out a command that does so to the rows
module _ (old : Pending) (commands : List Command) (command : Command) (leaves : Leaves old commands)
    (unclosed : old.closed ≡ false) (notice : Bool) (plain : IsPlain command notice) (outcome : Outcome)
    (skipped count : ℕ) (gone first rest fresh : List Row) where
  abbrev left : List Row
  left = map (taken_row outcome) first ++ (rows_skipped skipped rest ++ fresh)

  abbrev after : Pending
  after = front_skipped skipped (times count (front_taken notice outcome) old)

  pub taken_away : length first ≡ count → rows_of old commands ≡ gone ++ ((first ++ rest) ++ fresh) →
      Held old gone (first ++ rest) fresh → AllByRecursion IsStanding first →
      effect old.settings.estimate (rows_of old commands) command ≡ gone ++ left →
      moments_along notice gone (first ++ (rest ++ fresh)) left
      ≡ moments_along notice gone (first ++ (rest ++ fresh)) (map (taken_row outcome) first ++ (rest ++ fresh)) →
      {reply : Reply} → reply.answer ≡ answer_of (rows_of old commands) command →
      reply.settled ≡ entry_settlements outcome (front_id old) (map entry_of first) →
      reply.change ≡ change_between old.word after.word → Carries old commands command after reply
  taken_away size rows_are held each effect_is alike answers settles changes =
      let taken = map (taken_row outcome) first in
      let behind = rest ++ fresh in
      let now = rows_skipped skipped rest in
      let shorter = times count (front_taken notice outcome) old in
      let nothing = settlements_of_skipped skipped (length gone + length first) rest fresh in
      let settled = settlements_of_taken outcome (length gone) first behind (now ++ fresh) each nothing in
      let all = rw size at (all_taken notice outcome first old gone rest fresh
      (past_after old.settings commands) [] held (word_by_past old commands leaves)) in
      let same = skipped_same skipped shorter in
      carried old after commands command leaves unclosed gone (first ++ behind) left
      (rw (append_assoc first rest fresh) at rows_are) effect_is plain.quiet
      (rw plain.no_marks (skipped_opening skipped shorter ∙ all.2)) (same.1 ∙ all.3 ∙ unclosed ∙ sym plain.no_close) (gone ++ taken) now
      fresh (sym (append_assoc gone taken (now ++ fresh)))
      (skipped_held skipped shorter (gone ++ taken) rest fresh all.0)
      (same.0 ∙ all.1 ∙ rw (plain.notice_is, alike) refl) answers
      (settles ∙ rw (front_id_is old gone (first ++ rest) fresh held) (sym settled)) changes

-- the command takes the front away with this outcome
pub record IsRemoval (command : Command) (outcome : Outcome) : Type 0 where
  pub plain : IsPlain command true
  pub effect_is : (estimate : Estimate) (rows : List Row) →
      effect estimate rows command ≡ with_front (taken_row outcome) rows
  pub accepted : (limit : Option ℕ) (estimate : Estimate) (rows : List Row) →
      refusal_within limit estimate rows command ≡ None
  pub answer : (rows : List Row) → answer_of rows command ≡ Yes (is_some (front rows))

pub removal : IsRemoval Remove Success
removal = assumption

pub removal_with : (cause : Cause) → IsRemoval (RemoveWith cause) (Failed cause)
removal_with cause = assumption

module _ (command : Command) (outcome : Outcome) (is : IsRemoval command outcome) (old : Pending)
    (commands : List Command) (leaves : Leaves old commands) (unclosed : old.closed ≡ false) where
  -- a buffer without its front, if it has one, carries the removal out
  by_line : (gone standing fresh : List Row) → rows_of old commands ≡ gone ++ (standing ++ fresh) →
      Held old gone standing fresh →
      Carries old commands command (front_removed outcome old) (removal_reply outcome old)
  by_line gone [] fresh rows_are held =
      let none : ltb 0 (length old.line) ≡ false = rw held.line in
      let change = taken_row outcome in
      let front = with_front_fresh change fresh held.all_fresh in
      rw none (taken_away old commands command leaves unclosed true is.plain outcome 0 0 gone [] [] fresh refl rows_are
      held tt (is.effect_is old.settings.estimate (rows_of old commands)
      ∙ rw (rows_are, with_front_gone change gone fresh held.all_gone, front) refl) refl
      (sym (is.answer (rows_of old commands) ∙ ap Yes (some_front old commands leaves ∙ none))) refl refl)
  by_line gone (row ∷ standing) fresh rows_are held =
      let some : ltb 0 (length old.line) ≡ true = rw held.line (grind (arith, nat_tests)) in
      let change = taken_row outcome in
      let front = with_front_standing change row (standing ++ fresh) held.all_standing.0 in
      rw some (taken_away old commands command leaves unclosed true is.plain outcome 0 1 gone (row ∷ []) standing fresh
      refl rows_are held (held.all_standing.0, tt) (is.effect_is old.settings.estimate (rows_of old commands)
      ∙ rw (rows_are, with_front_gone change gone (row ∷ (standing ++ fresh)) held.all_gone, front) refl) refl
      (sym (is.answer (rows_of old commands) ∙ ap Yes (some_front old commands leaves ∙ some)))
      (rw (append-nil, ap is_first_voided held.line)) refl)

  removed : Carries old commands command (front_removed outcome old) (removal_reply outcome old)
  removed =
      let layout = layout_of old.settings.estimate commands in
      by_line layout.gone layout.standing layout.fresh layout.is (held_of old commands leaves)

-- the removal simulates the command
pub removal_simulates : (limit : Option ℕ) (command : Command) (outcome : Outcome) → IsRemoval command outcome →
    (old : Pending) → Simulates limit command old (removal_step outcome old)
removal_simulates limit command outcome is old = record {
  refusal = λ commands leaves. sym (is.accepted limit old.settings.estimate (rows_of old commands));
  reply = λ commands leaves unclosed none. (removed command outcome is old commands leaves unclosed).1;
  after = λ commands leaves unclosed none. (removed command outcome is old commands leaves unclosed).0;
  settings = grind arith;
}

-- the byte run is what the entries in line have left
pub run_is : (buffer : Pending) (commands : List Command) → Leaves buffer commands →
    byte_run (rows_after buffer.settings.estimate commands) ≡ blocks_left buffer.line
run_is buffer commands leaves = grind (arith, map-map)

-- if a cut is found it is the whole cut
found_by : (few : Bool) (cut found : Cut) → (let one : Option Cut = cond few None (Some cut) in one ≡ Some found) →
    cut ≡ found
found_by few cut found some = grind arith

-- rows of which both parts stand in line
split_each : (xs ys : List Row) → AllByRecursion IsStanding (xs ++ ys) →
    AllByRecursion IsStanding xs × AllByRecursion IsStanding ys
split_each [] ys all = (tt, all)
split_each (x ∷ xs) ys all = let rest = split_each xs ys all.1 in ((all.0, rest.0), rest.1)

module _ (buffer : Pending) (commands : List Command) (n : ℕ) (leaves : Leaves buffer commands) (cut : Cut)
    (is : cut_of n (blocks_left buffer.line) ≡ Some cut) where
  removed_by : (gone first rest fresh : List Row) → rows_of buffer commands ≡ gone ++ ((first ++ rest) ++ fresh) →
      Held buffer gone (first ++ rest) fresh → length first ≡ cut.whole → buffer.closed ≡ false →
      Carries buffer commands (RemoveBytes n) (bytes_removed cut buffer) (bytes_reply cut buffer)
  removed_by gone first rest fresh rows_are held count unclosed =
      let rows = rows_of buffer commands in
      let run = run_is buffer commands leaves in
      let pieces = blocks_left buffer.line in
      let found = found_by (ltb (bytes_in pieces) n) (whole_cut n pieces) cut is in
      let cut_is : whole_cut n (byte_run rows) ≡ cut = ap (whole_cut n) run ∙ found in
      let whole_is : whole_rows n rows ≡ cut.whole = ap (λ (c : Cut). c.whole) cut_is in
      let rest_is : bytes_left_over n rows ≡ cut.rest = ap (λ (c : Cut). c.rest) cut_is in
      let each = split_each first rest held.all_standing in
      let sent = map (taken_row Success) first in
      let passed = gone ++ sent in
      let behind = rest ++ fresh in
      let left = rows_skipped cut.rest rest ++ fresh in
      let all_passed = each_append IsGone gone sent held.all_gone (all_taken_gone Success first) in
      let split = rw (append_assoc first rest fresh) at rows_are in
      let effect_is : effect buffer.settings.estimate rows (RemoveBytes n) ≡ gone ++ (sent ++ left) =
      let sent_is = with_first_sent first gone behind held.all_gone each.0 in
      rw (rest_is, whole_is, ← count, split, sent_is, ← append_assoc gone sent behind)
      (with_skipped_is cut.rest passed fresh all_passed held.all_fresh rest each.1 ∙ append_assoc gone sent left) in
      let seam = take_at (map entry_of first) (map entry_of rest) cut.whole (length-map first entry_of ∙ count) in
      let line_is : take cut.whole buffer.line ≡ map entry_of first =
      rw (held.line, map-append entry_of first rest) seam in
      taken_away buffer commands (RemoveBytes n) leaves unclosed true (assumption) Success cut.rest cut.whole gone first
      rest fresh count rows_are held each.0 effect_is
      (moments_of_sent first gone behind left (moments_of_skipped cut.rest passed rest fresh))
      (ap Count (sym whole_is)) (ap (entry_settlements Success (front_id buffer)) line_is) refl

  -- the buffer is what the commands with the removal leave, and replies as they do
  pub bytes_removed_left : buffer.closed ≡ false → cut.whole ≤ length buffer.line →
      Leaves (bytes_removed cut buffer) (commands ++ RemoveBytes n ∷ [])
      × (bytes_reply cut buffer ≡ reply_of buffer.settings commands (RemoveBytes n))
  bytes_removed_left unclosed within =
      let layout = layout_of buffer.settings.estimate commands in
      let held = held_of buffer commands leaves in
      let size = line_count buffer layout.gone layout.standing layout.fresh held in
      let first = take cut.whole layout.standing in
      let rest = drop cut.whole layout.standing in
      let parts : first ++ rest ≡ layout.standing = take-append-drop cut.whole layout.standing in
      removed_by layout.gone first rest layout.fresh (rw parts layout.is) (rw parts held)
      (length-take-le cut.whole layout.standing (omega arith)) unclosed

-- a buffer without its line carries the failing out
failed_line : (cause : Cause) (notice : Bool) (old : Pending) (commands : List Command) → Leaves old commands →
    old.closed ≡ false →
    Carries old commands (FailFlushed cause notice) (line_failed cause notice old) (failing_reply cause notice old)
failed_line cause notice old commands leaves unclosed =
    let layout = layout_of old.settings.estimate commands in
    let held = held_of old commands leaves in
    let all = append-nil layout.standing in
    let failed = failed_parts cause layout.gone layout.standing layout.fresh layout.all_gone layout.all_standing
    layout.all_fresh in
    taken_away old commands (FailFlushed cause notice) leaves unclosed notice (assumption) (Failed cause) 0
    (length old.line) layout.gone layout.standing [] layout.fresh
    (sym (line_count old layout.gone layout.standing layout.fresh held)) (rw all layout.is) (rw all held)
    layout.all_standing (ap (map (failed_row cause)) layout.is ∙ failed) refl
    (ap Count (ap length leaves.line ∙ length-map (line (rows_of old commands)) entry_of))
    (ap (entry_settlements (Failed cause) (front_id old)) held.line) refl

-- the failing simulates the command
pub failing_simulates : (limit : Option ℕ) (cause : Cause) (notice : Bool) (old : Pending) →
    Simulates limit (FailFlushed cause notice) old (failing_step cause notice old)
failing_simulates limit cause notice old = record {
  refusal = λ commands leaves. refl;
  reply = λ commands leaves unclosed none. (failed_line cause notice old commands leaves unclosed).1;
  after = λ commands leaves unclosed none. (failed_line cause notice old commands leaves unclosed).0;
  settings = settings_of_times (front_taken notice (Failed cause)) (λ before. refl) (length old.line) old;
}

-- a close leaves rows alone that are gone
closed_gone : (cause : Cause) (row : Row) → IsGone row → closed_row cause row ≡ row
closed_gone cause row gone = grind arith

-- the promise of an unflushed row fails if it waits
closed_promises : (cause : Cause) (fresh : List Row) → AllByRecursion IsFresh fresh →
    map promise_of (map (closed_row cause) fresh) ≡ map (failed cause) (map promise_of fresh)
closed_promises cause [] all = refl
closed_promises cause (row ∷ fresh) all = rw (all.0.place, closed_promises cause fresh all.1)

-- what it settles
settled_by_one : (cause : Cause) (id : ℕ) (row : Row) → IsFresh row →
    settlement id (outcome_of row.promise) (outcome_of (closed_row cause row).promise)
    ≡ cond (is_waiting row.promise) ((record { 0 = id }, Failed cause) ∷ []) []
settled_by_one cause id row fresh = grind arith

settlements_of_closed : (cause : Cause) (id : ℕ) (fresh : List Row) → AllByRecursion IsFresh fresh →
    settlements_from id fresh (map (closed_row cause) fresh) ≡ failures cause id (map promise_of fresh)
settlements_of_closed cause id [] all = refl
settlements_of_closed cause id (row ∷ fresh) all =
    rw (settled_by_one cause id row all.0, settlements_of_closed cause (suc id) fresh all.1)

-- a fall without notice leaves the word alone
silent_more : (marks : Marks) (past : Past) (size sum : ℕ) (moments : List Moment) →
    word_from marks past (moments ++ moment_of false size 0 sum) ≡ word_from marks past moments
silent_more marks past size sum moments =
    rw (word_from_more false marks past moments size 0 sum) (grind (arith, nat_tests))

silent_word : (cause : Cause) (marks : Marks) (past : Past) (fresh passed : List Row) (moments : List Moment) →
    word_from marks past (moments ++ moments_along false passed fresh (map (closed_row cause) fresh))
    ≡ word_from marks past moments
silent_word cause marks past [] passed moments = ap (word_from marks past) (append-nil moments)
silent_word cause marks past (row ∷ fresh) passed moments =
    let next = closed_row cause row in
    let sum = total (passed ++ next ∷ fresh) in
    let one = moment_of false (counted_size row) 0 sum in
    (rw append_assoc at (silent_word cause marks past fresh (passed ++ next ∷ []) (moments ++ one)))
    ∙ silent_more marks past (counted_size row) sum moments

module _ (cause : Cause) (old : Pending) (commands : List Command) (leaves : Leaves old commands) where
  -- a close is refused if something is in line
  refusal_is : (closing_step cause old).refusal ≡ refusal_of old.settings.estimate (rows_of old commands) (Close cause)
  refusal_is = rw (some_front old commands leaves)

  -- and else the closed buffer carries it out
  closed_stands : old.closed ≡ false → (closing_step cause old).refusal ≡ None →
      Carries old commands (Close cause) (closed_pending cause old) (closing_reply cause old)
  closed_stands unclosed accepted =
      let layout = layout_of old.settings.estimate commands in
      let gone = layout.gone in
      let fresh = layout.fresh in
      let parts = held_of old commands leaves in
      let nothing : length old.line ≡ 0 = grind (arith, nat_tests) in
      let size = line_count old gone layout.standing fresh parts in
      let none = nil_from_length layout.standing (sym size ∙ nothing) in
      let rows_are = rw none at layout.is in
      let held = rw none at parts in
      let closed = map (closed_row cause) fresh in
      let before = map promise_of gone in
      let waiting = map promise_of fresh in
      let id = unflushed_id old in
      let id_is : id ≡ length gone = unflushed_id_is old gone [] fresh held ∙ ap length (append-nil gone) in
      let first_size : length before ≡ id = length-map gone promise_of ∙ sym id_is in
      let promises : old.promises ≡ before ++ waiting = held.promises ∙ map-append promise_of gone fresh in
      let left : drop id old.promises ≡ waiting = ap (drop id) promises ∙ drop_at before waiting id first_size in
      let first : take id old.promises ≡ before = ap (take id) promises ∙ take_at before waiting id first_size in
      let promised : (closed_pending cause old).promises ≡ map promise_of ((gone ++ closed) ++ []) =
      rw (first, left, append-nil (gone ++ closed), map-append promise_of gone closed)
      (rw (closed_promises cause fresh held.all_fresh)) in
      let all_closed = all_now_gone (closed_row cause) (λ row. refl) fresh in
      let all_gone = each_append IsGone gone closed held.all_gone all_closed in
      let stay = stay_by (closed_row cause) IsGone (closed_gone cause) gone held.all_gone in
      let silent = silent_word cause old.marks (past_after old.settings commands) fresh gone [] in
      carried old (closed_pending cause old) commands (Close cause) leaves unclosed gone fresh closed rows_are
      (rw (rows_are, map-append (closed_row cause) gone fresh, stay)) (λ index. refl) refl
      refl (gone ++ closed) [] [] (sym (append-nil (gone ++ closed))) (assumption (held.line, promised, all_gone))
      (word_by_past old commands leaves ∙ sym silent)
      (ap Count (ap length leaves.unflushed ∙ length-map (unflushed (rows_of old commands)) entry_of))
      (rw (left, id_is) (sym (settlements_of_closed cause (length gone) fresh held.all_fresh))) refl

-- the close simulates the command
pub closing_simulates : (limit : Option ℕ) (cause : Cause) (old : Pending) →
    Simulates limit (Close cause) old (closing_step cause old)
closing_simulates limit cause old = record {
  refusal = refusal_is cause old;
  reply = λ commands leaves unclosed none. (closed_stands cause old commands leaves unclosed none).1;
  after = λ commands leaves unclosed none. (closed_stands cause old commands leaves unclosed none).0;
  settings = refl;
}
