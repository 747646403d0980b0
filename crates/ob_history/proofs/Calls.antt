-- A call of a history, full or not, and where its record stands.
use Rattle.std.proofs.Common.{◌≡◌, ℕ, Bool, true, false, [], ◌∷◌, ◌++◌, Result, Ok, Err, get_or, length, ◌<◌, refl, sym}
use Rattle.std.proofs.Common.{ap, ◌∙◌, subst, arith, rules}
use Rattle.std.proofs.lemmas.Bool.{eqb-false, ne_eqb}
use Rattle.std.proofs.lemmas.List.{get_or_push, length_push}
use Rattle.std.specs.Prelude.{◌≢◌, if◌then◌else◌}
use Rattle.std.specs.Vec.{vec_len}
use Rattle.ob_types.specs.declared.command.Command.{Command}
use Rattle.ob_types.specs.declared.refusal.Refusal.{Refusal}
use Rattle.ob_types.specs.declared.refusal.Refusal.TheVariants.{HistoryFull}
use Rattle.ob_history.specs.History.{IsCall, call_answer, history_after, is_full, next_record, with_record, IsBeginning}
use Rattle.ob_history.specs.History.{History, IsBounded, IsLegal, receipt_of}
use Rattle.ob_history.specs.declared.receipt.Receipt.{Receipt}
use Rattle.ob_history.specs.declared.record.Record.{Record}
use Rattle.ob_history.proofs.Lists.{begins_itself}
use Rattle.ob_history.proofs.Histories.{legal_with_next}
use Rattle.ob_history.specs.Inside.{history_of}
use Rattle.ob_history.specs.declared.recorded.Recorded.TheInside.{Inside}

-- a history that is not full returns for a call the receipt of its record
pub answer_with_place : (history : History) (caller : ℕ) (command : Command) → is_full history ≡ false →
    call_answer history caller command ≡ Ok (receipt_of (next_record history caller command))
answer_with_place history caller command free =
    let answer : Bool → Result Receipt Refusal =
    λ full. if full then Err HistoryFull else Ok (receipt_of (next_record history caller command)) in
    ap answer free

-- and has that record after it
pub after_with_place : (history : History) (caller : ℕ) (command : Command) → is_full history ≡ false →
    history_after history caller command ≡ with_record history (next_record history caller command)
after_with_place history caller command free =
    let after : Bool → History =
    λ full. if full then history else with_record history (next_record history caller command) in
    ap after free

-- and that record stands last in it
pub record_at_place : (history after : History) (caller : ℕ) (command : Command) (place : ℕ) (other : Record)
    → is_full history ≡ false → place ≡ length history.records → after ≡ history_after history caller command
    → (place < length after.records) × (get_or after.records place other ≡ next_record history caller command)
record_at_place history after caller command place other free is_place is_after =
    let one = next_record history caller command in
    let records : after.records ≡ history.records ++ one ∷ [] =
    ap (λ (h : History). h.records) (is_after ∙ after_with_place history caller command free) in (
      omega (arith, is_place, ap (λ rs. length rs) records, length_push history.records one),
      ap (λ rs. get_or rs place other) records ∙ get_or_push history.records one other place (sym is_place),
    )

module _ (history : History) (caller : ℕ) (command : Command) where
  -- the history after a call that is answered so
  abbrev after_by : Bool → History
  after_by full = if full then history else with_record history (next_record history caller command)

  pub legal_after : IsLegal history.settings history.records →
      IsLegal history.settings (history_after history caller command).records
  legal_after legal = by_full (is_full history)
    where
      by_full : (full : Bool) → IsLegal history.settings (after_by full).records
      by_full true = legal
      by_full false =
          legal_with_next history.settings history.records (next_record history caller command) legal refl refl

  pub bounded_after : IsBounded history → IsBounded (history_after history caller command)
  bounded_after bounded = by_full (is_full history) refl
    where
      by_full : (full : Bool) → is_full history ≡ full → IsBounded (after_by full)
      by_full true is = bounded
      by_full false is =
          let below : length history.records ≢ history.limit = eqb-false (length history.records) history.limit is in
          record {
            places = omega (
              arith,
              length_push history.records (next_record history caller command),
              bounded.places,
              below,
            );
            limit = bounded.limit;
          }

  pub begins_after : IsBeginning history.records (history_after history caller command).records
  begins_after = by_full (is_full history)
    where
      by_full : (full : Bool) → IsBeginning history.records (after_by full).records
      by_full true = begins_itself history.records
      by_full false = record { rest = next_record history caller command ∷ []; whole = refl }

  -- what a record leaves alone a call does
  kept_after : {A : Type 0} (of : History → A) →
      of (with_record history (next_record history caller command)) ≡ of history →
      of (history_after history caller command) ≡ of history
  kept_after of kept = by_full (is_full history)
    where
      by_full : (full : Bool) → of (after_by full) ≡ of history
      by_full true = refl
      by_full false = kept

  pub settings_after : (history_after history caller command).settings ≡ history.settings
  settings_after = kept_after (λ held. held.settings) refl

  pub limit_after : (history_after history caller command).limit ≡ history.limit
  limit_after = kept_after (λ held. held.limit) refl

-- a call that gave a receipt was of a history that is not full, and its record is the last one
pub called_with_place : (old : History) (caller : ℕ) (command : Command) (receipt : Receipt) (new : History) →
    IsCall old caller command (Ok receipt) new →
    (is_full old ≡ false) × (receipt ≡ receipt_of (next_record old caller command))
    × (new ≡ with_record old (next_record old caller command))
called_with_place old caller command receipt new call =
    let answer = call.answer (search rules) in
    let free = not_full (is_full old) refl answer in (
      free,
      cc (answer ∙ answer_with_place old caller command free),
      call.after (search rules) ∙ after_with_place old caller command free,
    )
  where
    not_full : (full : Bool) → is_full old ≡ full → Ok receipt ≡ call_answer old caller command → is_full old ≡ false
    not_full false is answer = is
    not_full true is answer =
        let by : Bool → Result Receipt Refusal =
        λ full. if full then Err HistoryFull else Ok (receipt_of (next_record old caller command)) in
        absurd (cc (answer ∙ ap by is))

-- whatever a call returns, the records before it begin those after it
pub called_begins : (old : History) (caller : ℕ) (command : Command) (result : Result Receipt Refusal) (new : History) →
    IsCall old caller command result new → IsBeginning old.records new.records
called_begins old caller command (Ok receipt) new call =
    subst (λ (history : History). IsBeginning old.records history.records) (sym (call.after (search rules)))
    (begins_after old caller command)
called_begins old caller command (Err refusal) new call =
    subst (λ (history : History). IsBeginning old.records history.records) (sym call.refused) (begins_itself old.records)

-- the first free place of a history, and what stands there after the call
pub record Placed (before after : Inside) (caller : ℕ) (command : Command) (place : ℕ) (other : Record) : Type 0 where
  pub free : is_full (history_of before) ≡ false
  pub within : place < vec_len after.records
  pub found : get_or after.records.items place other ≡ next_record (history_of before) caller command

pub placed : (before after : Inside) (old new : History) (caller : ℕ) (command : Command) (place : ℕ) (other : Record)
    → place ≡ vec_len before.records → place ≢ before.limit → history_of before ≡ old → history_of after ≡ new
    → new ≡ history_after old caller command → Placed before after caller command place other
placed before after old new caller command place other is_place below was is called =
    let first = is_place ∙ before.records.ok.0 in
    let free = ne_eqb _ _ (λ same. below (first ∙ same)) in
    let after_it = is ∙ called ∙ ap (λ history. history_after history caller command) (sym was) in
    let at = record_at_place (history_of before) (history_of after) caller command place other free first after_it in
    record { free = free; within = omega (arith, at.0, after.records.ok.0); found = at.1 }
