-- What is seen of what commands left.
use Rattle.ob_seq.proofs.Words.{◌≡◌, ℕ, List, [], ◌∷◌, length, map, refl, sym, ap, ◌∙◌, arith, length-map, Row, line, front, rows_after}
use Rattle.ob_seq.proofs.Words.{entry_of, Pending, PendingEntry, first_progress, pending_total, Command, Leaves, Option, Message}
use Rattle.ob_seq.proofs.Words.{slice_get, unread_part, blocks_left, first_blocks, with_bytes}
use Rattle.std.specs.Prelude.{option_map}
use Rattle.ob_seq.specs.Looks.{gathered_after, before_unwritable, before_writable, current_after, look_after}
use Rattle.ob_seq.specs.Looks.{progress_of}
use Rattle.ob_seq.specs.declared.look.Look.{Look}
use Rattle.ob_seq.proofs.Simulating.Removed.{run_is}
use Rattle.ob_seq.proofs.Simulating.Simulation.{pending_total_stands}

-- the progress of the first entry is that of the front
first_progress_is : (rows : List Row) → first_progress (map entry_of (line rows)) ≡ progress_of (front rows)
first_progress_is [] = refl
first_progress_is (row ∷ rows) = let same = first_progress_is rows in grind arith

-- a look by what is held
abbrev pub seen_of : Pending → Look
seen_of held = record {
  total = pending_total held;
  word = held.word;
  size = length held.line;
  before_unwritable = before_unwritable held.marks held.word (pending_total held);
  before_writable = before_writable held.marks held.word (pending_total held);
  current_progress = first_progress held.line;
}

-- it is the look after the history
pub seen_is : (held : Pending) (commands : List Command) → Leaves held commands →
    seen_of held ≡ look_after held.settings commands
seen_is held commands leaves =
    let rows = rows_after held.settings.estimate commands in
    rw (pending_total_stands held commands leaves, leaves.marks, leaves.word, leaves.line)
    (rw (length-map (line rows) entry_of, first_progress_is rows))

-- what is left of the first entry
abbrev pub first_message : List PendingEntry → Option Message
first_message entries = option_map (λ (entry : PendingEntry). entry.message) (slice_get entries 0)

first_message_is : (rows : List Row) → first_message (map entry_of (line rows)) ≡ option_map unread_part (front rows)
first_message_is [] = refl
first_message_is (row ∷ rows) = let same = first_message_is rows in grind arith

-- it is the unread part of the front after the history
pub current_is : (held : Pending) (commands : List Command) → Leaves held commands →
    first_message held.line ≡ current_after held.settings commands
current_is held commands leaves =
    ap first_message leaves.line ∙ first_message_is (rows_after held.settings.estimate commands)

-- what is gathered from all in line is what is gathered after the history
pub gathered_is : (held : Pending) (limit most : ℕ) (commands : List Command) → Leaves held commands →
    first_blocks limit most (with_bytes (blocks_left held.line)) ≡ gathered_after held.settings commands limit most
gathered_is held limit most commands leaves =
    ap (λ run. first_blocks limit most (with_bytes run)) (sym (run_is held commands leaves))
