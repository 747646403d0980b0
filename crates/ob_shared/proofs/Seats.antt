-- What is known of a seat stays so.
use Rattle.std.proofs.Common.{◌≡◌, ℕ, List, [], sym, ap, ◌∙◌, subst}
use Rattle.atomic_table.specs.declared.shared.Seat.{Seat}
use Rattle.ob_history.specs.History.{IsLegal, glance_after}
use Rattle.ob_history.specs.declared.record.Record.{Record}
use Rattle.ob_shared.specs.Calls.{Opened, packed_glance}
use Rattle.ob_shared.specs.Published.{Knows, publishing, reading, HasPublished, IsReader}
use Rattle.ob_shared.specs.declared.rule.View.{View}

module _ (opened : Opened) (old new : Seat (Unit {0}) View) (table : new.table_id ≡ old.table_id) where
  abbrev SeenLegally : Knows → Type 0
  SeenLegally me = IsLegal opened.settings me.0.seen

  -- a seat that was cut off another one reads
  pub cut_reads : old.table_id ≡ opened.table → IsLegal opened.settings old.me.0.seen
      → new.me ≡ (reading old.me.0.seen [], []) → IsReader opened new
  cut_reads of legal me = record {
    table = table ∙ of;
    reads = ap (λ (knows : Knows). knows.0.publishes) me;
    slots = ap (λ (knows : Knows). knows.1) me;
    legal = subst SeenLegally (sym me) legal;
  }

  -- a seat that reads still does, if it knows what it knew
  pub still_reads : IsReader opened old → new.me ≡ old.me → IsReader opened new
  still_reads reads me = record {
    table = table ∙ reads.table;
    reads = ap (λ (knows : Knows). knows.0.publishes) me ∙ reads.reads;
    slots = ap (λ (knows : Knows). knows.1) me ∙ reads.slots;
    legal = subst SeenLegally (sym me) reads.legal;
  }

  -- the seat that publishes still does, if it has seen what it had
  pub still_publishes : (number : ℕ) → HasPublished opened old number → new.me.0.publishes ≡ old.me.0.publishes
      → new.me.0.seen ≡ old.me.0.seen → HasPublished opened new number
  still_publishes number had same seen = record {
    is_one = record {
      table = table ∙ had.is_one.table;
      publishes = same ∙ had.is_one.publishes;
      legal = subst (λ (records : List Record). IsLegal opened.settings records) (sym seen) had.is_one.legal;
    };
    shown = had.shown
        ∙ ap (λ (records : List Record). packed_glance (glance_after opened.settings records)) (sym seen);
  }

  -- and if it has published more
  pub has_published : (records : List Record) (number : ℕ) → old.table_id ≡ opened.table
      → IsLegal opened.settings records → new.me ≡ (publishing records [], old.me.1)
      → number ≡ packed_glance (glance_after opened.settings records) → HasPublished opened new number
  has_published records number of legal me is = record {
    is_one = record {
      table = table ∙ of;
      publishes = ap (λ (knows : Knows). knows.0.publishes) me;
      legal = subst SeenLegally (sym me) legal;
    };
    shown = is ∙ ap (λ (knows : Knows). packed_glance (glance_after opened.settings knows.0.seen)) (sym me);
  }
