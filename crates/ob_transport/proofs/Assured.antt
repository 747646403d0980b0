-- Calls that a reservation covers.
use Rattle.std.proofs.Common.{◌≡◌, ℕ, suc, ◌+◌, ◌<◌, ◌≤◌, Bool, true, false, List, [], ◌∷◌, ◌++◌, length, refl, sym, ap}
use Rattle.std.proofs.Common.{◌∙◌, subst, cond, eqb, arith, length-append}
use Rattle.std.specs.Prelude.{Option, Some, None, Err}
use Rattle.std.proofs.lemmas.Bool.Decides.{nat_tests}
use Rattle.ob_types.specs.declared.command.Command.{Command}
use Rattle.ob_types.specs.declared.command.Command.TheVariants.{Remove, Progress}
use Rattle.ob_types.specs.declared.promise.Outcome.{Outcome}
use Rattle.ob_types.specs.declared.promise.Outcome.TheVariants.{Success}
use Rattle.ob_types.specs.declared.refusal.Refusal.{Refusal}
use Rattle.ob_seq.specs.Answer.{first_refusal, outcome_of, reply_of, settlement, settlements_from, settlements_of}
use Rattle.ob_seq.specs.Answer.{unless_refused}
use Rattle.ob_seq.specs.Effect.{progressed_row, rows_after, taken_row, with_front}
use Rattle.ob_seq.specs.Rows.{is_in_line, Row, Settings}
use Rattle.ob_seq.specs.Pending.{settled_after, settled_by}
use Rattle.ob_seq.proofs.Rows.Along.{settlement_same, settlements_behind}
use Rattle.ob_history.specs.History.{IsAssured, history_after, is_full, next_record, with_record, accepted_commands}
use Rattle.ob_history.specs.History.{History, LacksPlaces, with_reserved}
use Rattle.ob_transport.specs.Inside.{Given}
use Rattle.ob_transport.specs.declared.fault.PassFault.{PassFault}
use Rattle.ob_transport.specs.declared.fault.PassFault.TheVariants.{Sink, HistoryFull, NoMemory, Unbooked}

-- a row settles at most one promise
one_at_most : (id : ℕ) (was now : Option Outcome) → length (settlement id was now) ≤ 1
one_at_most id None None = omega arith
one_at_most id None (Some outcome) = omega arith
one_at_most id (Some before) None = omega arith
one_at_most id (Some before) (Some outcome) = omega arith

-- a change of the front settles at most one promise
few_with_front : (change : Row → Row) (id : ℕ) (rows : List Row) →
    length (settlements_from id rows (with_front change rows)) ≤ 1
few_with_front change id [] = omega arith
few_with_front change id (row ∷ rows) = by_line (is_in_line row) (few_with_front change (suc id) rows)
  where
    by_line : (here : Bool) → length (settlements_from (suc id) rows (with_front change rows)) ≤ 1 →
        length (settlements_from id (row ∷ rows) (cond here (change row ∷ rows) (row ∷ with_front change rows))) ≤ 1
    by_line true rest =
        let one = settlement id (outcome_of row.promise) (outcome_of (change row).promise) in
        let none = ap (λ more. length more) (settlements_behind (suc id) rows) in
        omega (
          arith,
          length-append one (settlements_from (suc id) rows rows),
          none,
          one_at_most id
              (outcome_of row.promise) (outcome_of (change row).promise),
        )
    by_line false rest =
        subst (λ first. length (first ++ settlements_from (suc id) rows (with_front change rows)) ≤ 1)
        (sym (settlement_same id (outcome_of row.promise))) rest

-- what one more command settles is what it settles if it is accepted, or nothing
few_settled : (settings : Settings) (commands : List Command) (command : Command) →
    length (settlements_of settings.estimate (rows_after settings.estimate commands) command) ≤ 1 →
    settled_after settings commands command ≤ 4
few_settled settings commands command few = by_refusal (first_refusal settings.estimate commands command)
  where
    by_refusal : (refusal : Option Refusal) →
        length (settled_by (unless_refused refusal (reply_of settings commands command))) ≤ 4
    by_refusal None = omega (arith, few)
    by_refusal (Some refusal) = omega arith

pub progress_settles_few : (settings : Settings) (commands : List Command) (n : ℕ) →
    settled_after settings commands (Progress n) ≤ 4
progress_settles_few settings commands n =
    few_settled settings commands (Progress n)
    (few_with_front (progressed_row n) 0 (rows_after settings.estimate commands))

pub removal_settles_few : (settings : Settings) (commands : List Command) → settled_after settings commands Remove ≤ 4
removal_settles_few settings commands =
    few_settled settings commands Remove (few_with_front (taken_row Success) 0 (rows_after settings.estimate commands))

-- a call neither meets a full history nor runs out of memory if a place is left and the call is assured
pub never_refused : (caller : ℕ) (command : Command) (before after : History) (fault : PassFault) →
    is_full before ≡ false → IsAssured before command → Given {A = Unit {0}} caller command before (Err fault) after → ⊥
never_refused caller command before after (Sink fault) room assured given = given
never_refused caller command before after HistoryFull room assured given = absurd (let full = given.0 in cc)
never_refused caller command before after NoMemory room assured given = given.1 assured
never_refused caller command before after (Unbooked taken) room assured given = given

module _ (history : History) (caller : ℕ) (places : ¬ LacksPlaces history 2) where
  -- with two calls reserved there is a place for the first
  pub first_has_place : is_full (with_reserved history 2) ≡ false
  first_has_place = room (length history.records) history.limit places
    where
      room : (count limit : ℕ) → ¬ (limit < count + 2) → eqb count limit ≡ false
      room count limit places = grind (arith, nat_tests)

  -- and the first is recorded
  pub first_is_recorded : (command : Command) →
      history_after (with_reserved history 2) caller command
      ≡ with_record (with_reserved history 2) (next_record (with_reserved history 2) caller command)
  first_is_recorded command =
      ap (λ full. cond full (with_reserved history 2)
      (with_record (with_reserved history 2) (next_record (with_reserved history 2) caller command)))
      first_has_place

  -- so there is a place for the second
  pub second_has_place : (command : Command) → is_full (history_after (with_reserved history 2) caller command) ≡ false
  second_has_place command =
      ap is_full (first_is_recorded command)
      ∙ ap (λ count. eqb count history.limit) (length-append history.records
      (next_record (with_reserved history 2) caller command ∷ []))
      ∙ room (length history.records) history.limit places
    where
      room : (count limit : ℕ) → ¬ (limit < count + 2) → eqb (count + 1) limit ≡ false
      room count limit places = grind (arith, nat_tests)

  -- both are assured
  pub first_is_assured : (n : ℕ) → IsAssured (with_reserved history 2) (Progress n)
  first_is_assured n = record {
    reserved = omega arith;
    no_write = refl;
    few = progress_settles_few history.settings (accepted_commands history.records) n;
  }

  pub second_is_assured : (n : ℕ) → IsAssured (history_after (with_reserved history 2) caller (Progress n)) Remove
  second_is_assured n =
      let first = with_reserved history 2 in
      let next = with_record first (next_record first caller (Progress n)) in
      subst (λ after. IsAssured after Remove) (sym (first_is_recorded (Progress n))) (record {
        reserved = omega arith;
        no_write = refl;
        few = removal_settles_few history.settings (accepted_commands next.records);
      })

  -- neither of them is refused
  pub first_never_refused : (caller' n : ℕ) (middle after : History) (fault : PassFault) →
      middle ≡ with_reserved history 2 →
      Given {A = Unit {0}} caller' (Progress n) middle (Err fault) after → ⊥
  first_never_refused caller' n middle after fault is given =
      never_refused caller' (Progress n) (with_reserved history 2) after fault first_has_place (first_is_assured n)
      (subst (λ before. Given {A = Unit {0}} caller' (Progress n) before (Err fault) after) is given)

  pub second_never_refused : (caller' n : ℕ) (middle after : History) (fault : PassFault) →
      middle ≡ history_after (with_reserved history 2) caller (Progress n) →
      Given {A = Unit {0}} caller' Remove middle (Err fault) after → ⊥
  second_never_refused caller' n middle after fault is given =
      never_refused caller' Remove (history_after (with_reserved history 2) caller (Progress n)) after fault
      (second_has_place (Progress n)) (second_is_assured n)
      (subst (λ before. Given {A = Unit {0}} caller' Remove before (Err fault) after) is given)
