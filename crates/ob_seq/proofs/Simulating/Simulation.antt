-- What it is for a step to simulate its command, and that a write, a cancellation and other marks do.
use Rattle.std.proofs.lemmas.List.{set-get_or}
use Rattle.std.proofs.lemmas.Option.{slice_get-get_or}
use Rattle.ob_seq.proofs.Words.{[], ◌≡◌, ℕ, Option, false, List, ◌∷◌, ◌++◌, arith, ◌∙◌, None, Command, change_between}
use Rattle.ob_seq.proofs.Words.{reply_of, rows_after, effect, is_close, word_after, settlements_of, Pending, Leaves}
use Rattle.ob_seq.proofs.Words.{settled_by_step, ◌+◌, true, length, refl, sym, append-nil, nat_tests, map-append}
use Rattle.ob_seq.proofs.Words.{length-map, filter-append, sum_by_push, Marks, counted_bytes, Message, Write, entry_of}
use Rattle.ob_seq.proofs.Words.{Row, new_row, without_skipped, is_unflushed, is_in_line, unflushed, total, moment_of}
use Rattle.ob_seq.proofs.Words.{moments_of, pending_total, word_after_rise, zero, suc, ◌<◌, Bool, map, get_or, cond}
use Rattle.ob_seq.proofs.Words.{filter, slice_set, slice_get-map, Cancel, Cancelled, PromiseId, PromiseState, Waiting}
use Rattle.ob_seq.proofs.Words.{Settled, is_waiting, cancelled, with_cancelled, moments_along, outcome_of, settlement}
use Rattle.ob_seq.proofs.Words.{settlements_from, promise_set, SetMarks, marks_step}
use Rattle.ob_seq.specs.Answer.{answer_of, refusal_within}
use Rattle.ob_seq.specs.Steps.Step.{Step, settled_open, state_at}
use Rattle.ob_seq.proofs.Rows.History.{same_reply}
use Rattle.ob_seq.proofs.Inside.Held.{Holds, opening, opening_with, left_by_more, promise_of, sum_of_rows, word_at_end}
use Rattle.ob_seq.proofs.Inside.Held.{word_by_past}
use Rattle.ob_seq.specs.Steps.Commands.{write_step_within, cancel_step}
use Rattle.ob_seq.proofs.Rows.Along.{moments_past, settlements_past, moment_of_same, moments_behind, settlement_same}
use Rattle.ob_seq.proofs.Rows.Along.{settlements_behind, moments_of_same, settlements_of_same}
use Rattle.ob_seq.proofs.Word.{past_after, word_from_more, word_step, word_after_same}
use Rattle.ob_seq.proofs.Rows.EachRow.{taken_back}

-- whatever commands left a buffer, its step is refused as the definition says under a limit on writes, and else replies
-- as it says and gives what the commands with this one leave
pub record Simulates (limit : Option ℕ) (command : Command) (old : Pending) (step : Step) : Type 0 where
  pub refusal : (commands : List Command) → Leaves old commands →
      step.refusal ≡ refusal_within limit old.settings.estimate (rows_after old.settings.estimate commands) command
  pub reply : (commands : List Command) → Leaves old commands → old.closed ≡ false → step.refusal ≡ None →
      step.reply ≡ reply_of old.settings commands command
  pub after : (commands : List Command) → Leaves old commands → old.closed ≡ false → step.refusal ≡ None →
      Leaves step.after (commands ++ command ∷ [])
  pub settings : step.after.settings ≡ old.settings

-- a step of a buffer that is not closed does what the definition says of the command after this history
pub record Does (command : Command) (old : Pending) (step : Step) (commands : List Command) : Type 0 where
  pub opened : opening step.after ≡ opening_with command old
  pub closed : step.after.closed ≡ is_close command
  pub holds : Holds step.after (effect old.settings.estimate (rows_after old.settings.estimate commands) command)
  pub word : step.after.word ≡ word_after old.settings (commands ++ command ∷ [])
  pub answer : step.reply.answer ≡ answer_of (rows_after old.settings.estimate commands) command
  pub settled : step.reply.settled
      ≡ settlements_of old.settings.estimate (rows_after old.settings.estimate commands) command
  pub change : step.reply.change ≡ change_between old.word step.after.word

-- so it simulates the command
pub simulates_by : {limit : Option ℕ} {command : Command} {old : Pending} {step : Step} → step.after.settings ≡ old.settings →
    ((commands : List Command) → Leaves old commands →
    step.refusal ≡ refusal_within limit old.settings.estimate (rows_after old.settings.estimate commands) command) →
    ((commands : List Command) → Leaves old commands → old.closed ≡ false → step.refusal ≡ None →
    Does command old step commands) → Simulates limit command old step
simulates_by {limit = limit} {command = command} {old = old} {step = step} settings refusal does = record {
  refusal = refusal;
  reply = λ commands leaves unclosed none.
      let done = does commands leaves unclosed none in
      same_reply done.answer done.settled (done.change ∙ rw (leaves.word, done.word));
  after = λ commands leaves unclosed none.
      let done = does commands leaves unclosed none in
      left_by_more old step.after commands command leaves unclosed
      done.opened done.closed done.holds done.word;
  settings = settings;
}

-- what a step settles, by whether the buffer is closed
pub settled_where_open : (old : Pending) (step : Step) → old.closed ≡ false →
    settled_open step ≡ settled_by_step old step
settled_where_open old step unclosed = rw unclosed

-- the bytes pending in a buffer are those of the rows
pub pending_total_stands : (buffer : Pending) (commands : List Command) → Leaves buffer commands →
    pending_total buffer ≡ total (rows_after buffer.settings.estimate commands)
pending_total_stands buffer commands leaves =
    rw (leaves.line, leaves.unflushed) (sum_of_rows (rows_after buffer.settings.estimate commands))

-- nothing skipped leaves a message whole
without_skipped_none : (message : Message) → without_skipped 0 message ≡ message
without_skipped_none message = grind arith

-- a rise, seen as the step of the word
rise_step : (marks : Marks) (word size sum : ℕ) →
    word_after_rise marks word size sum ≡ word_step true marks word 0 size sum
rise_step marks word size sum = grind (arith, nat_tests)

-- the write does what the definition says of the command, whether it is refused or not
pub write_does : (limit : Option ℕ) (message : Message) (old : Pending) (commands : List Command) → Leaves old commands →
    old.closed ≡ false → Does (Write message) old (write_step_within limit message old) commands
write_does limit message old commands leaves unclosed =
    let rows : List Row = rows_after old.settings.estimate commands in
    let row : Row = new_row old.settings.estimate message in
    let size : ℕ = counted_bytes old.settings.estimate message in
    let now : moments_of old.settings.estimate rows (Write message) ≡ moment_of true 0 size (total rows + size) =
    moments_past rows (rows ++ row ∷ []) rows [] (row ∷ []) (sym (append-nil rows)) refl true
    ∙ rw (append-nil, sum_by_push) in record {
      opened = refl;
      closed = unclosed;
      holds = record {
        line = rw (filter-append is_in_line rows (row ∷ []), append-nil) leaves.line;
        unflushed = rw (
          filter-append (λ (row : Row). is_unflushed row.place) rows (row ∷ []),
          map-append entry_of (unflushed rows) (row ∷ []),
          without_skipped_none message,
          leaves.unflushed,
        );
        promises = rw (map-append promise_of rows (row ∷ []), leaves.promises);
      };
      word = rw (pending_total_stands old commands leaves, rise_step, word_by_past old commands leaves)
          (sym (word_from_more true old.marks (past_after old.settings commands) []
          0 size (total rows + size)))
          ∙ word_at_end old commands leaves (Write message) _ (λ index. refl) now;
      answer = rw (leaves.promises, length-map);
      settled = sym
          (settlements_past rows (rows ++ row ∷ []) rows [] (row ∷ []) (sym (append-nil rows)) refl);
      change = refl;
    }

-- and so it simulates the command
pub write_simulates : (limit : Option ℕ) (message : Message) (old : Pending) →
    Simulates limit (Write message) old (write_step_within limit message old)
write_simulates limit message old =
    simulates_by refl
    (λ commands leaves.
    let sum = pending_total_stands old commands leaves in
    let count : length old.promises ≡ length (rows_after old.settings.estimate commands) =
    rw (leaves.promises, length-map) in
    grind (arith, nat_tests)) (λ commands leaves unclosed none. write_does limit message old commands leaves unclosed)

-- the state of the promise at an index
abbrev state_of : List Row → ℕ → PromiseState
state_of rows id = get_or (map promise_of rows) id Waiting

-- the rows with a promise taken back: their promises, entries, moments and settlements
promises_of_back : (id : ℕ) (rows : List Row) →
    map promise_of (with_cancelled id rows) ≡ slice_set (map promise_of rows) id (cancelled (state_of rows id))
promises_of_back id [] = refl
promises_of_back zero (row ∷ rows) = refl
promises_of_back (suc id) (row ∷ rows) = rw (promises_of_back id rows)

-- a promise is no part of an entry
entries_of_back : (test : Row → Bool) → ((row : Row) → test (taken_back row) ≡ test row) → (id : ℕ) (rows : List Row) →
    map entry_of (filter test (with_cancelled id rows)) ≡ map entry_of (filter test rows)
entries_of_back test alike id [] = refl
entries_of_back test alike zero (row ∷ rows) = let same = alike row in grind arith
entries_of_back test alike (suc id) (row ∷ rows) = let rest = entries_of_back test alike id rows in grind arith

moments_of_back : (id : ℕ) (passed rows : List Row) → moments_along true passed rows (with_cancelled id rows) ≡ []
moments_of_back id passed [] = refl
moments_of_back zero passed (row ∷ rows) =
    rw (moment_of_same, moments_behind true (passed ++ taken_back row ∷ []) rows)
moments_of_back (suc id) passed (row ∷ rows) =
    rw (moment_of_same, moments_of_back id (passed ++ row ∷ []) rows)

settlements_of_back : (id at place : ℕ) → place ≡ at + id → (rows : List Row) → id < length rows →
    settlements_from at rows (with_cancelled id rows)
    ≡ settlement place (outcome_of (state_of rows id)) (outcome_of (cancelled (state_of rows id)))
settlements_of_back id at place is [] known = absurd (omega arith)
settlements_of_back zero at place is (row ∷ rows) known =
    let here : place ≡ at = omega arith in
    rw (settlements_behind (suc at) rows, append-nil, here)
settlements_of_back (suc id) at place is (row ∷ rows) known =
    rw (settlement_same, settlements_of_back id (suc at) place (omega arith) rows (omega arith))

-- a promise that does not wait stays as it is
after_is : (old : Pending) (id : ℕ) (state : PromiseState) → state_at old id ≡ state →
    cond (is_waiting state) (promise_set id (Settled Cancelled) old) old ≡ promise_set id (cancelled state) old
after_is old id state is = let same = set-get_or old.promises id Waiting in grind arith

-- the cancellation simulates the command
pub cancel_simulates : (limit : Option ℕ) (id : PromiseId) (old : Pending) →
    Simulates limit (Cancel id) old (cancel_step id.0 old)
cancel_simulates limit id old =
    simulates_by (rw (after_is old id.0 (state_at old id.0) refl)) (λ commands leaves. rw (leaves.promises, length-map))
    (λ commands leaves unclosed none.
    let rows : List Row = rows_after old.settings.estimate commands in
    let state : PromiseState = state_at old id.0 in
    let count : length old.promises ≡ length rows = rw (leaves.promises, length-map) in
    let some : id.0 < length old.promises = grind (arith, nat_tests) in
    let here : state_of rows id.0 ≡ state = rw leaves.promises in
    let settled = settlements_of_back id.0 0 id.0 (omega arith) rows (omega arith) in
    rw (after_is old id.0 state refl) record {
      opened = refl;
      closed = unclosed;
      holds = record {
        line = rw (entries_of_back is_in_line (λ row. refl) id.0 rows) leaves.line;
        unflushed = rw (entries_of_back (λ row. is_unflushed row.place) (λ row. refl) id.0 rows) leaves.unflushed;
        promises = rw (promises_of_back id.0 rows, leaves.promises);
      };
      word = leaves.word
          ∙ sym (word_after_same old.settings commands (Cancel id) (λ index. refl) (moments_of_back id.0 [] rows));
      answer = rw (
        ← slice_get-map promise_of rows id.0,
        ← leaves.promises,
        slice_get-get_or old.promises id.0 Waiting some,
      );
      settled = rw (settled, here) (grind arith);
      change = refl;
    })

-- marks that are set simulate the command: the rows stay, so there is no moment and no settlement
pub marks_simulate : (limit : Option ℕ) (marks : Marks) (old : Pending) →
    Simulates limit (SetMarks marks) old (marks_step marks old)
marks_simulate limit marks old =
    simulates_by refl (λ commands leaves. refl) (λ commands leaves unclosed none.
    let rows = rows_after old.settings.estimate commands in record {
      opened = refl;
      closed = unclosed;
      holds = record { line = leaves.line; unflushed = leaves.unflushed; promises = leaves.promises };
      word = leaves.word ∙ sym
          (word_after_same old.settings commands (SetMarks marks) (λ index. refl) (moments_of_same true rows));
      answer = refl;
      settled = sym (settlements_of_same rows);
      change = refl;
    })
