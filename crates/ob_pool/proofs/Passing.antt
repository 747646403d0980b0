-- What holds of the records that a pass makes: they are its caller's, and none fails what is flushed.
use Rattle.std.proofs.Common.{◌≡◌, ℕ, ◌+◌, ◌<◌, ◌≤◌, Bool, true, false, List, [], ◌∷◌, ◌-◌, ◌⊎◌, inl, inr, ◌++◌}
use Rattle.std.proofs.Common.{append-nil, append_assoc, refl, sym, ap, ◌∙◌, subst, cond, arith}
use Rattle.std.proofs.lemmas.Bool.{cases_lt}
use Rattle.std.proofs.lemmas.List.Elements.{All-append, All-cons, All-nil}
use Rattle.std.proofs.lemmas.List.Sums.{sum_by_push}
use Rattle.std.specs.Prelude.{Option, Some, None, Result, Ok, Err, ◌==◌, if◌then◌else◌}
use Rattle.std.specs.List.{concat}
use Rattle.ob_types.specs.declared.command.Command.{Command}
use Rattle.ob_types.specs.declared.command.Command.TheVariants.{Remove, RemoveWith, RemoveBytes, Progress, FailFlushed}
use Rattle.ob_types.specs.declared.promise.Cause.{Cause}
use Rattle.ob_types.specs.declared.message.Message.{Message}
use Rattle.ob_types.specs.declared.message.Message.TheVariants.{Block, Region, Other}
use Rattle.ob_types.specs.declared.refusal.Refusal.{Refusal}
use Rattle.ob_history.specs.History.{IsRecording, history_after, is_full, next_record, with_record, History}
use Rattle.ob_history.specs.declared.record.Record.{Record}
use Rattle.ob_transport.specs.Pass.{GrowAlike, IsPass, Clears, SendsBytes, SendsUnits, ready, Standing, standing}
use Rattle.ob_transport.specs.Sent.{current_in, gathered_in, progress_in, sent_bytes_in, sent_units_in, Content}
use Rattle.ob_transport.specs.declared.fault.Pass.{Pass}
use Rattle.ob_transport.specs.declared.fault.Pass.TheVariants.{Idle, Stalled, Cleared, Took}
use Rattle.ob_transport.specs.declared.fault.PassFault.{PassFault}
use Rattle.ob_transport.specs.declared.fault.PassFault.TheVariants.{Sink, HistoryFull, NoMemory, Unbooked}
use Rattle.ob_transport.specs.declared.limits.Limits.{Limits}
use Rattle.ob_transport.proofs.Sent.{no_bytes_sent, no_units_sent}
use Rattle.ob_pool.specs.Report.{failings_of, is_failing}
use Rattle.ob_pool.specs.Threads.{GrowsBy}

-- one more call of a command that is no failing
pub same_after : (history : History) (caller : ℕ) (command : Command) → is_failing command ≡ false →
    failings_of (history_after history caller command).records ≡ failings_of history.records
same_after history caller command harmless = by_full (is_full history)
  where
    after : Bool → History
    after full = if full then history else with_record history (next_record history caller command)

    by_full : (full : Bool) → failings_of (after full).records ≡ failings_of history.records
    by_full true = refl
    by_full false =
        let pushed = sum_by_push (λ one. cond (is_failing one.command) 1 0) history.records
        (next_record history caller command) in
        rw (pushed, harmless) (omega arith)

-- what holds of the records before a pass, and still holds with one record more of a command that is no failing, holds
-- after it
module _ (caller : ℕ) (before : Standing) (Holds : List Record → Type 0) (start : Holds before.history.records)
    (more : (history : History) (command : Command) → is_failing command ≡ false → Holds history.records →
    Holds (history_after history caller command).records) where
  abbrev HoldsAt : Standing → Type 0
  HoldsAt here = Holds here.history.records

  left_so : (after expected : Standing) → after ≡ expected → HoldsAt expected → HoldsAt after
  left_so after expected is holds = subst HoldsAt (sym is) holds

  -- a history behind two reserved calls, with one more
  more_ready : (command : Command) → is_failing command ≡ false →
      Holds (history_after (ready before) caller command).records
  more_ready command harmless = more (ready before) command harmless start

  clears : (command : Command) → is_failing command ≡ false → (result : Result Pass PassFault) (after : Standing) →
      Clears caller command before result after → HoldsAt after
  clears command harmless (Ok Idle) after c = absurd c
  clears command harmless (Ok Stalled) after c = absurd c
  clears command harmless (Ok (Took n)) after c = absurd c
  clears command harmless (Ok Cleared) after c = left_so after _ c.1 (more before.history command harmless start)
  clears command harmless (Err (Sink fault)) after c = absurd c
  clears command harmless (Err HistoryFull) after c = left_so after _ c.1 start
  clears command harmless (Err NoMemory) after c = left_so after _ c.2 start
  clears command harmless (Err (Unbooked taken)) after c = absurd c

  sends_bytes : (offered : List ℕ) (result : Result Pass PassFault) (after : Standing) →
      SendsBytes caller offered before result after → HoldsAt after
  sends_bytes offered (Ok Idle) after c = absurd c
  sends_bytes offered (Ok Stalled) after c = left_so after _ c.left start
  sends_bytes offered (Ok (Took n)) after c = left_so after _ c.2.left (more_ready (RemoveBytes n) refl)
  sends_bytes offered (Ok Cleared) after c = absurd c
  sends_bytes offered (Err (Sink fault)) after c = left_so after _ c.left start
  sends_bytes offered (Err HistoryFull) after c = left_so after _ c.1 start
  sends_bytes offered (Err NoMemory) after c = left_so after _ c start
  sends_bytes offered (Err (Unbooked taken)) after c = left_so after _ c.3.left start

  booked_so : (n : ℕ) (last : Bool) →
      Holds (if last then history_after (history_after (ready before) caller (Progress n)) caller Remove
      else history_after (ready before) caller (Progress n)).records
  booked_so n true = more (history_after (ready before) caller (Progress n)) Remove refl (more_ready (Progress n) refl)
  booked_so n false = more_ready (Progress n) refl

  sends_units : (rest : ℕ) (result : Result Pass PassFault) (after : Standing) →
      SendsUnits caller rest before result after → HoldsAt after
  sends_units rest (Ok Idle) after c = absurd c
  sends_units rest (Ok Stalled) after c = left_so after _ c.left start
  sends_units rest (Ok (Took n)) after c = left_so after _ c.2.left (booked_so n (n == rest))
  sends_units rest (Ok Cleared) after c = absurd c
  sends_units rest (Err (Sink fault)) after c = left_so after _ c.left start
  sends_units rest (Err HistoryFull) after c = left_so after _ c.1 start
  sends_units rest (Err NoMemory) after c = left_so after _ c.1.left start
  sends_units rest (Err (Unbooked taken)) after c = absurd c

  pub holds_after : (limits : Limits) (result : Result Pass PassFault) (after : Standing) →
      IsPass limits caller before result after → HoldsAt after
  holds_after limits result after pass = by_front (current_in before.history) refl
    where
      by_blocks : (bytes : List ℕ) → current_in before.history ≡ Some (Block bytes) → (blocks : List (List ℕ)) →
          gathered_in limits before.history ≡ blocks → HoldsAt after
      by_blocks bytes is [] none = clears (RemoveBytes 0) refl result after (pass.no_bytes bytes is none)
      by_blocks bytes is (block ∷ blocks) some =
          sends_bytes (concat (gathered_in limits before.history)) result after
          (pass.bytes bytes is (λ none. absurd (cc)))

      by_rest : (length : ℕ) → current_in before.history ≡ Some (Region length) →
          (progress_in before.history < length) ⊎ (length ≤ progress_in before.history) → HoldsAt after
      by_rest length is (inl some) =
          sends_units (length - progress_in before.history) result after (pass.units length is some)
      by_rest length is (inr none) = clears Remove refl result after (pass.no_units length is none)

      by_front : (front : Option Message) → current_in before.history ≡ front → HoldsAt after
      by_front None is = left_so after before (pass.idle is).1 start
      by_front (Some (Block bytes)) is = by_blocks bytes is (gathered_in limits before.history) refl
      by_front (Some (Region length)) is = by_rest length is (cases_lt (progress_in before.history) length)
      by_front (Some (Other value)) is = clears (RemoveWith (record { 0 = 1 })) refl result after (pass.other value is)

-- so of what a pass leaves as many records fail what is flushed as before
pub passed : (limits : Limits) (caller : ℕ) (before after : History) (sink now : Content)
    (result : Result Pass PassFault) →
    IsPass limits caller (standing before sink) result (standing after now) →
    failings_of after.records ≡ failings_of before.records
passed limits caller before after sink now result pass =
    holds_after caller (standing before sink) (λ records. failings_of records ≡ failings_of before.records) refl
    (λ history command harmless so. same_after history caller command harmless ∙ so) limits result (standing after now) pass

-- one more call of a history that has grown by records of its caller
pub grows_more : (caller : ℕ) (before : List Record) (history : History) (command : Command) →
    GrowsBy caller before history.records → GrowsBy caller before (history_after history caller command).records
grows_more caller before history command grown = by_full (is_full history)
  where
    one : Record
    one = next_record history caller command

    by_full : (full : Bool) → GrowsBy caller before (if full then history else with_record history one).records
    by_full true = grown
    by_full false = record {
      more = grown.more ++ one ∷ [];
      grown = ap (λ (records : List Record). records ++ one ∷ []) grown.grown
          ∙ append_assoc before grown.more (one ∷ []);
      own = All-append (λ (its : Record). its.caller ≡ caller) grown.more (one ∷ []) grown.own
          (All-cons (λ (its : Record). its.caller ≡ caller) one [] refl (All-nil (λ (its : Record). its.caller ≡ caller)));
    }

-- and all that a pass records is its caller's
pub passes_alone : (limits : Limits) (caller : ℕ) (before after : History) (sink now : Content)
    (result : Result Pass PassFault) →
    IsPass limits caller (standing before sink) result (standing after now) →
    GrowsBy caller before.records after.records
passes_alone limits caller before after sink now result pass =
    holds_after caller (standing before sink) (GrowsBy caller before.records) none
    (λ history command harmless so. grows_more caller before.records history command so) limits result
    (standing after now) pass
  where
    none : GrowsBy caller before.records before.records
    none = record {
      more = [];
      grown = sym (append-nil before.records);
      own = All-nil (λ (its : Record). its.caller ≡ caller);
    }

-- a recording behind it is so too, also one that is refused
pub records_alone : (before between after : History) (caller its : ℕ) (command : Command)
    (result : Result (Unit {0}) Refusal) → its ≡ caller → GrowsBy caller before.records between.records →
    IsRecording between its command result after → GrowsBy caller before.records after.records
records_alone before between after caller its command (Ok made) same grown recording =
    let is = recording.after (λ wanting. absurd (cc wanting)) in
    subst (λ (history : History). GrowsBy caller before.records history.records) (sym is)
    (subst (λ other. GrowsBy caller before.records (history_after between other command).records) (sym same)
    (grows_more caller before.records between command grown))
records_alone before between after caller its command (Err refusal) same grown recording =
    subst (λ (history : History). GrowsBy caller before.records history.records) (sym recording.refused) grown

-- a failing that is recorded is one record more that fails what is flushed
pub failed_once : (result : Result (Unit {0}) Refusal) (made : Unit {0}) → result ≡ Ok made →
    (before after : History) (caller : ℕ) (cause : Cause) (notify : Bool) →
    IsRecording before caller (FailFlushed cause notify) result after →
    failings_of after.records ≡ failings_of before.records + 1
failed_once result made is before after caller cause notify recording =
    subst (λ (other : History). failings_of other.records ≡ failings_of before.records + 1)
    (sym (recording.after (λ wanting. absurd (cc (wanting, is))))) (by_full (is_full before) refl)
  where
    one : Record
    one = next_record before caller (FailFlushed cause notify)

    by_full : (full : Bool) → is_full before ≡ full →
        failings_of (if full then before else with_record before one).records ≡ failings_of before.records + 1
    by_full true full = absurd (cc (recording.full full, is))
    by_full false short = omega (arith, sum_by_push (λ one. cond (is_failing one.command) 1 0) before.records one)

-- a call that fails what is flushed sends nothing
pub failing_alike : (before between after : History) (sink now : Content) (caller : ℕ) (cause : Cause) (notify : Bool) →
    GrowAlike (standing before sink) (standing between now) →
    after ≡ history_after between caller (FailFlushed cause notify) →
    GrowAlike (standing before sink) (standing after now)
failing_alike before between after sink now caller cause notify alike is = record {
  bytes = (
    alike.bytes.0,
    alike.bytes.1,
    ap sent_bytes_in is ∙ no_bytes_sent between caller (FailFlushed cause notify) refl ∙ alike.bytes.2,
  );
  units = (
    alike.units.0,
    alike.units.1,
    ap sent_units_in is ∙ no_units_sent between caller (FailFlushed cause notify) refl ∙ alike.units.2,
  );
}
