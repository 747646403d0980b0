-- Each command is simulated by its step.
use Rattle.ob_seq.proofs.Words.{◌≡◌, ℕ, Bool, true, refl, ap, ◌∙◌, arith, None, nat_tests, Marks, Command, Write, Flush}
use Rattle.ob_seq.proofs.Words.{Remove, RemoveWith, RemoveBytes, Progress, Cancel, FailFlushed, Close, UserBit, SetMarks, Success}
use Rattle.ob_seq.proofs.Words.{Failed, Refusal, Cut, blocks_left, Pending, Settings, bit_step, front_taken, step_of, Option}
use Rattle.ob_seq.proofs.Words.{times, whole_cut, false, List, ◌<◌, length, Reply, Leaves}
use Rattle.ob_seq.proofs.Words.{SparesMemory, StandsFor, settled_by_step, ◌++◌, map, sym, append_assoc, append-nil}
use Rattle.ob_seq.proofs.Words.{length-map, Count, Row, flushed_row, reached_row, rows_after, flush_step, next_flushed}
use Rattle.ob_seq.proofs.Words.{[], ◌∷◌, map-append, counted_size, total, front, line, entry_of, progressed_row}
use Rattle.ob_seq.proofs.Words.{with_front, outcome_of, first_changed, progress_step}
use Rattle.std.specs.Prelude.{Result, Ok, Err, IsErrOf}
use Rattle.ob_types.specs.Limits.{inline_settlements}
use Rattle.ob_types.specs.declared.refusal.Refusal.TheVariants.{NoMemory}
use Rattle.ob_seq.specs.Answer.{commands_with, refusal_of_progress, answer_within, are_accepted_within, buffer_limit}
use Rattle.ob_seq.specs.Pending.{Follows, Obeys, Settles}
use Rattle.ob_seq.specs.Steps.Step.{Step, Makes, answer_by, held_by}
use Rattle.ob_seq.specs.Steps.Commands.{bytes_step, progressed_entry, step_within}
use Rattle.ob_seq.proofs.Inside.Gathered.{few_entries}
use Rattle.ob_seq.proofs.Simulating.Removed.{bytes_removed_left, run_is, closing_simulates, failing_simulates, removal}
use Rattle.ob_seq.proofs.Simulating.Removed.{removal_simulates, removal_with}
use Rattle.ob_seq.proofs.Simulating.Simulation.{cancel_simulates, marks_simulate, Simulates, simulates_by}
use Rattle.ob_seq.proofs.Simulating.Simulation.{write_simulates}
use Rattle.ob_seq.proofs.Inside.Taken.{skipped_opening}
use Rattle.ob_seq.proofs.Inside.Steps.{settings_of_times}
use Rattle.ob_seq.proofs.UserBits.{bit_changed_left, reply_of_bit}
use Rattle.ob_seq.proofs.Rows.History.{open_history, accepted_more}
use Rattle.ob_seq.proofs.Rows.Along.{moments_past, settlements_past, moment_of_same, moments_in_one, settlement_same}
use Rattle.ob_seq.proofs.Rows.Along.{settlements_in_one}
use Rattle.ob_seq.proofs.Inside.Held.{word_at_end, held_of, held_rows, fresh_count, word_by_past}
use Rattle.ob_seq.proofs.Word.{past_after, word_after_same}
use Rattle.ob_seq.proofs.Rows.Order.{Layout, layout_of, flush_parts, with_front_gone, with_front_standing}
use Rattle.ob_seq.proofs.Rows.Order.{progressed_stands}
use Rattle.ob_seq.proofs.Rows.RowByRow.{all_reached, settlements_of_reached}
use Rattle.ob_seq.proofs.Rows.Fronts.{fronted}

-- the flush simulates the command
flush_simulates : (limit : Option ℕ) (old : Pending) → Simulates limit Flush old (flush_step old)
flush_simulates limit old =
    simulates_by (settings_of_times next_flushed (λ before. refl) (length old.unflushed) old) (λ commands leaves. refl)
    (λ commands leaves unclosed none.
    let rows : List Row = rows_after old.settings.estimate commands in
    let layout : Layout rows = layout_of old.settings.estimate commands in
    let passed : List Row = layout.gone ++ layout.standing in
    let reached : List Row = map reached_row layout.fresh in
    let held = held_of old commands leaves in
    let count = fresh_count old layout.gone layout.standing layout.fresh held in
    let rows_are : rows ≡ passed ++ layout.fresh = rw append_assoc layout.is in
    let effect_is : map flushed_row rows ≡ layout.gone ++ (layout.standing ++ reached) =
    ap (map flushed_row) layout.is ∙ flush_parts layout.gone layout.standing layout.fresh layout.all_gone
    layout.all_standing layout.all_fresh in
    let behind : map flushed_row rows ≡ passed ++ reached = rw append_assoc effect_is in
    let moments = moments_past rows (map flushed_row rows) passed layout.fresh reached rows_are behind true in
    let all = all_reached layout.fresh old layout.gone layout.standing (past_after old.settings commands) [] held (word_by_past old commands leaves) in
    rw count record {
      opened = all.2;
      closed = all.3 ∙ unclosed;
      holds = rw (effect_is, ← append-nil (layout.standing ++ reached)) (held_rows _ _ _ _ all.0);
      word = all.1 ∙ word_at_end old commands leaves Flush _ (λ index. refl) moments;
      answer = ap Count (sym count ∙ rw (leaves.unflushed, length-map));
      settled = sym (settlements_past rows (map flushed_row rows) passed layout.fresh reached rows_are behind
          ∙ settlements_of_reached (length passed) layout.fresh);
      change = refl;
    })

-- progress is refused by the first entry in line as by the front
progress_refusal : (n : ℕ) (old : Pending) (rows : List Row) →
    (progress_step n record old { line = map entry_of (line rows) }).refusal ≡ refusal_of_progress (front rows) n
progress_refusal n old [] = refl
progress_refusal n old (row ∷ rows) = let rest = progress_refusal n old rows in grind (arith, nat_tests)

some_line : (n : ℕ) (old : Pending) → (progress_step n old).refusal ≡ None → 0 < length old.line
some_line n old none = grind (arith, nat_tests)

-- progress simulates the command
progress_simulates : (limit : Option ℕ) (n : ℕ) (old : Pending) → Simulates limit (Progress n) old (progress_step n old)
progress_simulates limit n old =
    simulates_by refl
    (λ commands leaves. rw leaves.line (progress_refusal n old (rows_after old.settings.estimate commands)))
    (λ commands leaves unclosed none.
    let rows : List Row = rows_after old.settings.estimate commands in
    let f = fronted old commands leaves (some_line n old none) in
    let told : Row = progressed_row n f.row in
    let behind : List Row = f.standing ++ f.fresh in
    let after : List Row = with_front (progressed_row n) rows in
    let effect_is : after ≡ f.gone ++ told ∷ behind = rw (
      f.rows_are,
      with_front_gone (progressed_row n) f.gone (f.row ∷ behind) f.held.all_gone,
      with_front_standing (progressed_row n) f.row behind f.held.all_standing.0,
    ) in
    let moments = moments_in_one rows after f.gone f.row told behind f.rows_are effect_is true
    ∙ moment_of_same true (counted_size f.row) (total (f.gone ++ told ∷ behind)) in record {
      opened = refl;
      closed = unclosed;
      holds = rw effect_is (held_rows _ f.gone (told ∷ f.standing) f.fresh record {
        line = ap (first_changed (progressed_entry n)) f.held.line;
        unflushed = f.held.unflushed;
        promises = rw map-append (rw map-append at f.held.promises);
        all_gone = f.held.all_gone;
        all_standing = (progressed_stands n f.row f.held.all_standing.0, f.held.all_standing.1);
        all_fresh = f.held.all_fresh;
      });
      word = leaves.word ∙ sym (word_after_same old.settings commands (Progress n) (λ index. refl) moments);
      answer = refl;
      settled = sym (settlements_in_one rows after f.gone f.row told behind f.rows_are effect_is
          ∙ settlement_same (length f.gone) (outcome_of f.row.promise));
      change = refl;
    })

-- the removal of bytes simulates the command
bytes_simulate : (limit : Option ℕ) (n : ℕ) (old : Pending) → Simulates limit (RemoveBytes n) old (bytes_step n old)
bytes_simulate limit n old =
    let cut : Cut = whole_cut n (blocks_left old.line) in
    let few = few_entries n old.line in record {
      refusal = λ commands leaves. rw (run_is old commands leaves);
      reply = λ commands leaves unclosed none.
          (bytes_removed_left old commands n leaves cut (grind arith) unclosed few).1;
      after = λ commands leaves unclosed none.
          (bytes_removed_left old commands n leaves cut (grind arith) unclosed few).0;
      settings =
          ap (λ (parts : Settings × Marks). parts.0)
          (skipped_opening cut.rest (times cut.whole (front_taken true Success) old))
          ∙ settings_of_times (front_taken true Success) (λ before. refl) cut.whole old;
    }

-- the user bit simulates the command
bit_simulates : (limit : Option ℕ) (index : ℕ) (writable : Bool) (old : Pending) →
    Simulates limit (UserBit index writable) old (bit_step index writable old)
bit_simulates limit index writable old = record {
  refusal = λ commands leaves. refl;
  reply = λ commands leaves unclosed none.
      reply_of_bit old commands index writable leaves unclosed (grind (arith, nat_tests)) (grind (arith, nat_tests));
  after = λ commands leaves unclosed none.
      bit_changed_left old commands index writable leaves unclosed (grind (arith, nat_tests))
      (grind (arith, nat_tests));
  settings = refl;
}

-- whatever command is given, its step is what the definition says, under each limit on writes
pub simulated : (limit : Option ℕ) (command : Command) (old : Pending) →
    Simulates limit command old (step_within limit command old)
simulated limit (Write message) old = write_simulates limit message old
simulated limit Flush old = flush_simulates limit old
simulated limit Remove old = removal_simulates limit Remove Success removal old
simulated limit (RemoveWith cause) old =
    removal_simulates limit (RemoveWith cause) (Failed cause) (removal_with cause) old
simulated limit (RemoveBytes n) old = bytes_simulate limit n old
simulated limit (Progress n) old = progress_simulates limit n old
simulated limit (Cancel id) old = cancel_simulates limit id old
simulated limit (FailFlushed cause notice) old = failing_simulates limit cause notice old
simulated limit (Close cause) old = closing_simulates limit cause old
simulated limit (UserBit index writable) old = bit_simulates limit index writable old
simulated limit (SetMarks marks) old = marks_simulate limit marks old

module _ (limit : Option ℕ) (command : Command) (old : Pending) where
  abbrev step : Step
  step = step_within limit command old

  -- the step's answer is the definition's after the commands that left what is held
  pub answer_is : (commands : List Command) → Leaves old commands →
      answer_by old step ≡ answer_within limit old.settings commands command
  answer_is commands leaves = grind (arith, simulated)

  -- if what is held is open and its step is not refused, the step leaves what the commands with this one leave, and
  -- they are accepted
  pub goes_on : (commands : List Command) → are_accepted_within limit old.settings [] commands ≡ true →
      Leaves old commands → old.closed ≡ false → step.refusal ≡ None →
      (are_accepted_within limit step.after.settings [] (commands ++ command ∷ []) ≡ true)
      × Leaves step.after (commands ++ command ∷ [])
  goes_on commands accepted leaves unclosed none = grind (arith, simulated, open_history, accepted_more)

module _ (command : Command) (old : Pending) where
  abbrev own_step : Step
  own_step = step_of command old

  -- a call settles as many promises as its step
  pub settles : Settles old command (settled_by_step old own_step)
  settles commands stands = rw (answer_is buffer_limit command old commands stands.leaves)

  follows : (result : Result Reply Refusal) → (¬ IsErrOf result NoMemory → result ≡ answer_by old own_step) →
      Follows old command result (held_by old own_step result)
  follows (Ok reply) same commands stands =
      let said = same (λ wants. absurd (cc)) in
      let opened : (old.closed ≡ false) × (own_step.refusal ≡ None) = grind arith in
      let on = goes_on buffer_limit command old commands stands.accepted stands.leaves opened.0 opened.1 in
      record { accepted = on.0; leaves = on.1 }
  follows (Err refusal) same commands stands = stands

  module _ {new : Pending} {result : Result Reply Refusal} (made : Makes old own_step result new) where
    -- some history is still stood for
    pub stays : ((commands : List Command) × StandsFor old commands) →
        (commands : List Command) × StandsFor new commands
    stays some = (commands_with some.0 command result, rw made.after (follows result made.answer some.0 some.1))

    -- a call that makes its step obeys its command
    pub obeys : {told : Pending} → old ≡ told → Obeys told command result new
    obeys is = let stay = (simulated buffer_limit command old).settings in rw (← is, made.after) record {
      answer = λ other commands stands. made.answer other ∙ answer_is buffer_limit command old commands stands.leaves;
      stands = follows result made.answer;
      settings = grind arith;
      refused = grind arith;
      no_memory_last = λ wants commands stands. rw (← answer_is buffer_limit command old commands stands.leaves, made.no_memory_last wants);
    }

    -- and spares memory, if it runs out only when it settles more promises than fit without an allocation
    pub spares : {told : Pending} → old ≡ told →
        (IsErrOf result NoMemory → inline_settlements < length own_step.reply.settled) → SparesMemory told command result
    spares is many = grind (arith, settles)
