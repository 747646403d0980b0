-- What is taken away, and that what is left still stands for some commands.
use Rattle.ob_connection.proofs.Words.{◌≡◌, ℕ, ◌+◌, ◌++◌, ◌∷◌, Bool, true, false, List, [], Option, Some, None, Result, Ok, Err, OnErr}
use Rattle.ob_connection.proofs.Words.{refl, sym, ap, ◌∙◌, subst, arith, append-nil, length-append, length, map, drop, ◌≤◌, if◌then◌else◌}
use Rattle.ob_connection.proofs.Words.{Becomes, Connected, Makes, Moves, Outcome, Pending, Refusal, StandsForSome, Steps, Unsent}
use Rattle.ob_connection.proofs.Words.{held, told_by, whole, waiting_count}
use Rattle.std.specs.Bool.{then_some}
use Rattle.std.proofs.lemmas.List.{length-map}
use Rattle.ob_types.specs.declared.command.Command.TheVariants.{Close, FailFlushed, RemoveBytes}
use Rattle.ob_types.specs.declared.promise.Cause.{Cause}
use Rattle.ob_types.specs.declared.promise.Outcome.TheVariants.{Cancelled, Failed, Success}
use Rattle.ob_types.specs.declared.promise.PromiseId.{PromiseId}
use Rattle.ob_types.specs.declared.reply.Answer.TheVariants.{Yes}
use Rattle.ob_seq.specs.Kept.{removal}
use Rattle.ob_seq.specs.Steps.Commands.{bytes_removed, closed_pending, closing_step, failing_step, front_skipped, front_taken, removal_step}
use Rattle.ob_seq.specs.Steps.Commands.{cut_of, first_length}
use Rattle.ob_seq.specs.Looks.{blocks_left}
use Rattle.ob_seq.specs.Steps.Step.{times}
use Rattle.ob_seq.specs.Steps.Within.{TakesCut, TakesFirst, front_endings, front_reply}
use Rattle.ob_seq.specs.Unsent.{ended, pending_entries, pending_entry}
use Rattle.ob_seq.specs.declared.contents.cut.Cut.{Cut}
use Rattle.ob_seq.specs.declared.contents.take.Front.{Front}
use Rattle.ob_seq.proofs.Inside.LetGo.{a_cut, none_left}
use Rattle.ob_connection.specs.Inside.{IsCut}
use Rattle.ob_connection.specs.Obeying.{removed_reply, settled_if}
use Rattle.ob_connection.specs.declared.replies.Removed.{Removed}
use Rattle.ob_connection.proofs.Steps.{closed_of_times, becomes_left}
use Rattle.ob_connection.proofs.Obeyed.{stands_after}

-- what a removal of the front reports, and how many messages are gone after it
abbrev pub told : ℕ → Outcome → Result (Option Front) Refusal → Result Removed Refusal
told gone outcome (Err refusal) = Err refusal
told gone outcome (Ok None) = Ok (record { any = false; settled = None; change = None })
told gone outcome (Ok (Some front)) =
    Ok (record { any = true; settled = then_some front.settles (gone, outcome); change = front.change })

abbrev pub gone_after : ℕ → Result (Option Front) Refusal → ℕ
gone_after gone (Err refusal) = gone
gone_after gone (Ok None) = gone
gone_after gone (Ok (Some front)) = gone + 1

settled : (settles : Bool) (id : ℕ) (outcome : Outcome) →
    (let all : List (PromiseId × Outcome) = if settles then (record { 0 = id }, outcome) ∷ [] else [] in all)
    ≡ settled_if (then_some settles (id, outcome))
settled true id outcome = refl
settled false id outcome = refl

-- what waits makes the step of a removal
abbrev pub RemovesFront : Unsent → Result (Option Front) Refusal → Unsent → Type 0
RemovesFront old result new =
    (gone : List Outcome) (outcome : Outcome) →
    Makes (whole gone old) (removal_step outcome (whole gone old)) (told_by (front_reply (length gone) outcome) result)
    (whole (gone ++ front_endings outcome result) new)

-- and so does a connection
removal_steps : (outcome : Outcome) {old new : Unsent} {gone : ℕ} (result : Result (Option Front) Refusal) →
    RemovesFront old result new → OnErr result (new ≡ old) →
    Steps (removal_step outcome) (record { unsent = old; gone = gone }) removed_reply (told gone outcome result)
    (record { unsent = new; gone = gone_after gone result })
removal_steps outcome {gone = gone} (Err refusal) makes same = record {
  makes = λ past. (
    record { outcomes = past.outcomes; count = past.count },
    rw (append-nil past.outcomes) at (makes past.outcomes outcome),
  );
  refused = ap (λ (unsent : Unsent). record { unsent = unsent; gone = gone }) same;
}
removal_steps outcome (Ok None) makes same = record {
  makes = λ past. (
    record { outcomes = past.outcomes; count = past.count },
    rw (append-nil past.outcomes) at (makes past.outcomes outcome),
  );
  refused = tt;
}
removal_steps outcome {old} {new} {gone} (Ok (Some front)) makes same = record {
  makes = λ past.
      let ends = (if front.settles then outcome else Cancelled) ∷ [] in (
        record { outcomes = past.outcomes ++ ends; count = length-append past.outcomes ends ∙ ap (λ n. n + 1) past.count },
        subst (λ (all : List (PromiseId × Outcome)). Makes (held past) (removal_step outcome (held past))
            (Ok (record { answer = Yes true; settled = all; change = front.change })) (whole (past.outcomes ++ ends) new))
            (ap (λ (id : ℕ). let all : List (PromiseId × Outcome) =
            if front.settles then (record { 0 = id }, outcome) ∷ [] else [] in all) past.count
            ∙ settled front.settles gone outcome)
            (makes past.outcomes outcome),
      );
  refused = tt;
}

-- which is that of the command with this outcome
pub removes : (outcome : Outcome) → ¬ (outcome ≡ Cancelled) → {old new : Unsent} {gone : ℕ}
    (result : Result (Option Front) Refusal) → RemovesFront old result new → OnErr result (new ≡ old) →
    Moves (record { unsent = old; gone = gone }) (removal outcome) removed_reply (told gone outcome result)
    (record { unsent = new; gone = gone_after gone result })
removes Success other result makes same = removal_steps Success result makes same
removes (Failed cause) other result makes same = removal_steps (Failed cause) result makes same
removes Cancelled other result makes same = absurd (other refl)

-- a removal of as many bytes ends where it is found to end
pub cut_found : {inside now : Connected} → inside ≡ now → (n : ℕ) {cut : Cut} →
    Some cut ≡ cut_of n (blocks_left (pending_entries inside.unsent.line)) → cut.whole ≤ length inside.unsent.line →
    cut.rest ≤ first_length (drop cut.whole (pending_entries inside.unsent.line)) → IsCut now.unsent cut
cut_found view n {cut} found whole rest =
    subst (λ (one : Connected). IsCut one.unsent cut) view (record { bytes = n; found = found; whole = whole; rest = rest })

skipped_closed : (n : ℕ) (now : Pending) → (front_skipped n now).closed ≡ now.closed
skipped_closed n now = grind arith

-- a removal of bytes
module _ {old : Connected} (cut : Cut) (is : IsCut old.unsent cut) {left : Unsent} (takes : TakesCut cut old.unsent left) where
  pub cut_becomes : Becomes (bytes_removed cut) old (record { unsent = left; gone = old.gone + cut.whole })
  cut_becomes = becomes_left (bytes_removed cut) Success cut.whole left is.whole takes.taken

  pub cut_stands : old.unsent.closed ≡ false → StandsForSome old →
      StandsForSome (record { unsent = left; gone = old.gone + cut.whole })
  cut_stands unclosed =
      stands_after (RemoveBytes is.bytes) unclosed (λ past. (a_cut is.bytes (held past) is.found).0)
      (λ past. let there = cut_becomes past in
      (there.0, there.1 ∙ ap (λ (one : Cut). bytes_removed one (held past)) (a_cut is.bytes (held past) is.found).1))

-- it leaves an open connection open
pub cut_open : (old : Connected) (cut : Cut) {left : Unsent} → TakesCut cut old.unsent left → old.unsent.closed ≡ false →
    left.closed ≡ false
cut_open old cut takes unclosed =
    ap (λ (one : Pending). one.closed) (takes.taken [])
    ∙ skipped_closed cut.rest (times cut.whole (front_taken true Success) (whole [] old.unsent))
    ∙ closed_of_times true Success cut.whole (whole [] old.unsent) ∙ unclosed

-- a failing of all in line
module _ {old : Connected} (cause : Cause) (notice : Bool) {count : ℕ} (all : count ≡ length old.unsent.line) {left : Unsent}
    (takes : TakesFirst count notice old.unsent left) where
  pub line_becomes :
      Becomes (λ now. (failing_step cause notice now).after) old (record { unsent = left; gone = old.gone + count })
  line_becomes =
      let seen = all ∙ sym (length-map old.unsent.line pending_entry) in
      becomes_left (λ now. (failing_step cause notice now).after) (Failed cause) count left (omega (arith, all))
      (λ past. takes.taken past (Failed cause)
      ∙ ap (λ n. times n (front_taken notice (Failed cause)) (whole past old.unsent)) seen)

  pub line_stands : old.unsent.closed ≡ false → StandsForSome old →
      StandsForSome (record { unsent = left; gone = old.gone + count })
  line_stands unclosed = stands_after (FailFlushed cause notice) unclosed (λ past. refl) line_becomes

-- a close
module _ {old : Connected} (cause : Cause) {end : ℕ} (all : end ≡ old.gone + waiting_count old.unsent)
    (empty : length old.unsent.line ≡ 0) {left : Unsent}
    (shut : (gone : List Outcome) (cause : Cause) →
    whole (gone ++ map (ended (Failed cause)) old.unsent.unflushed) left ≡ closed_pending cause (whole gone old.unsent))
  where
    pub close_becomes : Becomes (λ now. (closing_step cause now).after) old (record { unsent = left; gone = end })
    close_becomes past =
        let ends = map (ended (Failed cause)) old.unsent.unflushed in (
          record {
            outcomes = past.outcomes ++ ends;
            count = length-append past.outcomes ends
                ∙ omega (arith, past.count, length-map old.unsent.unflushed (ended (Failed cause)), all, empty);
          },
          shut past.outcomes cause,
        )

    pub close_stands : old.unsent.closed ≡ false → StandsForSome old → StandsForSome (record { unsent = left; gone = end })
    close_stands unclosed =
        stands_after (Close cause) unclosed
        (λ past. none_left cause (held past) (length-map old.unsent.line pending_entry ∙ empty)) close_becomes
