-- What holds of the published word, what each step tells the seat that makes it, and what is known of the seats. A seat is
-- that of `atomic_table`: `me.0` is what it knows, a `View`, and `me.1` its slots. No public clause cites this file.
use Rattle.std.specs.Prelude.{◌≡◌, ℕ, true, false, List, [], length, slice_index, ◌∷◌, ◌++◌}
use mathlib.Core.Option.{some}
use lib.ListN.{get_elem?}
use Rattle.atomic_table.specs.Table.{State, Me}
use Rattle.ob_seq.specs.Rows.{Settings}
use Rattle.ob_history.specs.History.{IsBeginning, IsLegal, glance_after}
use Rattle.ob_history.specs.declared.record.Record.{Record}
use Rattle.ob_shared.specs.Calls.{packed_glance, Opened}
use Rattle.ob_shared.specs.declared.rule.View.{View}
use Rattle.atomic_table.specs.declared.shared.Seat.{Seat}
use Rattle.atomic_table.specs.Seated.{TableId}
use Rattle.ob_types.specs.Marks.{Marks}
use Rattle.ob_types.specs.declared.estimate.Estimate.{Estimate}

-- what the seat knows that publishes, which saw this, and took in a seat that had seen that
abbrev pub publishing : List Record → List Record → View
publishing seen told = record { publishes = true; seen = seen; told = told; reads = [] }

-- what a seat knows that reads
abbrev pub reading : List Record → List ℕ → View
reading seen reads = record { publishes = false; seen = seen; told = []; reads = reads }

-- what the seat with this number knows fits a history: it has seen a beginning of it, and was told of one; and if it
-- publishes, it is the only one that does, and has seen the whole
pub record Fits (publisher : ℕ) (log : List Record) (seat : ℕ) (view : View) : Type 0 where
  pub one : view.publishes ≡ true → seat ≡ publisher
  pub whole : view.publishes ≡ true → view.seen ≡ log
  pub part : IsBeginning view.seen log
  pub told : IsBeginning view.told log

-- of sixteen words the ninth is the glance after a legal history, which the views of all seats fit
pub record Ruled (settings : Settings) (state : State (Unit {0}) View) : Type 0 where
  pub log : List Record
  pub publisher : ℕ
  pub legal : IsLegal settings log
  pub words : length state.words ≡ 16
  pub shown : slice_index state.words 8 ≡ packed_glance (glance_after settings log)
  pub fits : (seat : ℕ) (view : View) → get_elem? state.views seat ≡ some view → Fits publisher log seat view

-- what a seat knows, and the slots that it has
abbrev pub Knows : Type 0
Knows = Me (Unit {0}) View

-- a load by a seat that reads finds the glance after what it has seen then: a legal history, which begins with all that
-- it had seen
pub record Reads (settings : Settings) (old : Knows) (found : ℕ) (new : Knows) : Type 0 where
  pub after : new ≡ (reading new.0.seen (old.0.reads ++ found ∷ []), old.1)
  pub shows : found ≡ packed_glance (glance_after settings new.0.seen)
  pub longer : IsBeginning old.0.seen new.0.seen
  pub legal : IsLegal settings new.0.seen

-- a load by the seat that publishes changes nothing, and tells that what it took in last had seen a beginning
pub record Learns (old new : Knows) : Type 0 where
  pub same : new ≡ old
  pub told : IsBeginning old.0.told old.0.seen

-- a seat is the one that publishes what was opened
pub record IsPublisher (opened : Opened) (seat : Seat (Unit {0}) View) : Type 0 where
  pub table : seat.table_id ≡ opened.table
  pub publishes : seat.me.0.publishes ≡ true
  pub legal : IsLegal opened.settings seat.me.0.seen

-- and this is the number that it published last
pub record HasPublished (opened : Opened) (seat : Seat (Unit {0}) View) (number : ℕ) : Type 0 where
  pub is_one : IsPublisher opened seat
  pub shown : number ≡ packed_glance (glance_after opened.settings seat.me.0.seen)

-- a seat is one that reads what was opened, and has no slot
pub record IsReader (opened : Opened) (seat : Seat (Unit {0}) View) : Type 0 where
  pub table : seat.table_id ≡ opened.table
  pub reads : seat.me.0.publishes ≡ false
  pub slots : seat.me.1 ≡ []
  pub legal : IsLegal opened.settings seat.me.0.seen

-- a table has sixteen words and was told the settings, and its one seat publishes, has seen nothing and has no slot
pub record IsNewTable (marks : Marks) (estimate : Estimate) (told : Marks × Estimate) (table : TableId)
    (seat : Seat (Unit {0}) View) : Type 0 where
  pub words : table.words ≡ 16
  pub marks_told : told.0 ≡ marks
  pub estimate_told : told.1 ≡ estimate
  pub seat_of : seat.table_id ≡ table
  pub me : seat.me ≡ (publishing [] [], [])
