-- What the lines of a trace come to, and the text of that.
use Rattle.std.specs.Fmt.{decimal}
use Rattle.std.specs.List.{slice_index_or, suffix_len, sum_by, range_with_len, flat_map}
use Rattle.std.specs.Option.{option_map_or}
use Rattle.std.specs.Prelude.{◌+◌, ◌==◌, ℕ, Bool, true, false, not, List, reverse, take, find, is_some, Option, Some}
use Rattle.std.specs.Prelude.{None, ◌≡◌, ◌<◌, ◌≤◌, count_by, length, map, ◌-◌, [], ◌∷◌, ◌++◌, codes, if◌then◌else◌}
use Rattle.ob_types.specs.declared.reply.Change.{Change}
use Rattle.ob_types.specs.declared.reply.Change.TheVariants.{Unwritable, Writable}
use Rattle.ob_script.specs.Tracing.{number_line}
use Rattle.ob_traces.specs.Traces.{bare, shows_bytes}
use Rattle.ob_traces.specs.declared.summing.make.Summary.{Summary}
use Rattle.ob_traces.specs.declared.summing.settlements.Settlements.{Settlements}
use Rattle.ob_traces.specs.declared.summing.top.Top.{Top}
use Rattle.ob_traces.specs.declared.traces.line.Told.{Told}
use Rattle.ob_traces.specs.declared.traces.line.Told.TheVariants as told
use Rattle.ob_traces.specs.declared.traces.line.TraceLine.{TraceLine}

-- whether something accepted is told of
abbrev pub is_told_accepted : Told → Bool
is_told_accepted told.Accepted = true
is_told_accepted (told.Refused number) = false
is_told_accepted told.Look = false
is_told_accepted told.Bare = false

-- the number of the refusal that is told of, if one is
abbrev pub refusal_of : Told → Option ℕ
refusal_of told.Accepted = None
refusal_of (told.Refused number) = Some number
refusal_of told.Look = None
refusal_of told.Bare = None

-- whether a change tells writers to stop
abbrev pub is_unwritable_change : Change → Bool
is_unwritable_change Unwritable = true
is_unwritable_change Writable = false

-- the pending bytes that the line of a place shows
abbrev pub total_at : List TraceLine → ℕ → ℕ
total_at lines place = (slice_index_or lines place bare).total

-- whether a line shows a buffer that is not writable
abbrev pub is_unwritable : TraceLine → Bool
is_unwritable line = not line.is_writable

-- how many lines, of which that of a place is the last, stand together and show no writable buffer
abbrev pub unwritable_at : List TraceLine → ℕ → ℕ
unwritable_at lines place = suffix_len is_unwritable (take (place + 1) lines)

-- a line tells of an accepted command or turn, of a refused one, or of the refusal of this number
abbrev pub is_accepted : TraceLine → Bool
is_accepted line = is_told_accepted line.told

abbrev pub is_refused : TraceLine → Bool
is_refused line = is_some (refusal_of line.told)

abbrev pub is_refused_as : ℕ → TraceLine → Bool
is_refused_as number line = option_map_or (λ told. told == number) (refusal_of line.told) false

-- a line tells writers to stop, or to go on
abbrev pub is_stop : TraceLine → Bool
is_stop line = option_map_or is_unwritable_change line.change false

abbrev pub is_go : TraceLine → Bool
is_go line = option_map_or (λ change. not (is_unwritable_change change)) line.change false

-- a line tells of this change
abbrev pub tells_of : Change → TraceLine → Bool
tells_of Unwritable = is_stop
tells_of Writable = is_go

-- the pending bytes behind the last line that shows them; 0 if none does
abbrev pub pending_behind : List TraceLine → ℕ
pending_behind lines = option_map_or (λ line. line.total) (find shows_bytes (reverse lines)) 0

-- how many promises the lines settle, by outcome
abbrev pub settlements_in : List TraceLine → Settlements
settlements_in lines = record {
  success = sum_by (λ line. line.settled.success) lines;
  failed = sum_by (λ line. line.settled.failed) lines;
  cancelled = sum_by (λ line. line.settled.cancelled) lines;
}

-- the greatest number of the first *n* lines: no line has a greater one, and each line before has a smaller one
pub record IsGreatest (count : ℕ) (values : ℕ → ℕ) (top : Top) : Type 0 where
  pub within : top.place < count
  pub stands : values top.place ≡ top.value
  pub greatest : (place : ℕ) → place < count → values place ≤ top.value
  pub first : (place : ℕ) → place < top.place → values place < top.value

-- the greatest number of the first *n* lines, if there are any
abbrev pub IsTop : ℕ → (ℕ → ℕ) → Option Top → Type 0
IsTop count values None = count ≡ 0
IsTop count values (Some top) = IsGreatest count values top

-- a summary is that of these lines
pub record Summarizes (lines : List TraceLine) (summary : Summary) : Type 0 where
  pub count : summary.lines ≡ length lines
  pub accepted : summary.accepted ≡ count_by is_accepted lines
  -- of the refused, all, and those of each number from 1 to 11
  pub refused : summary.refused ≡ count_by is_refused lines
  pub refusals : summary.refusals.items
      ≡ map (λ number. (number, count_by (is_refused_as number) lines)) (range_with_len 1 11)
  -- the most pending bytes, at the first line that shows them
  pub peak : IsTop (length lines) (total_at lines) summary.peak
  pub stops : summary.stops ≡ count_by is_stop lines
  pub goes : summary.goes ≡ count_by is_go lines
  -- the most lines together that show no writable buffer, at the last line of the first such stretch
  pub longest : IsTop (length lines) (unwritable_at lines) summary.longest
  pub pending : summary.pending ≡ pending_behind lines
  pub settled : summary.settled ≡ settlements_in lines

-- how often a refusal stands there, if it does
abbrev pub refusal_text : (ℕ × ℕ) → List ℕ
refusal_text refusal =
    if refusal.1 == 0 then [] else codes " !" ++ decimal refusal.0 ++ codes ":" ++ decimal refusal.1

-- the line of what was refused
abbrev pub refused_text : ℕ → List (ℕ × ℕ) → List ℕ
refused_text refused refusals = codes "refused " ++ decimal refused ++ flat_map refusal_text refusals ++ 10 ∷ []

-- the line of the most pending bytes
abbrev pub peak_text : Option Top → List ℕ
peak_text None = codes "peak 0" ++ 10 ∷ []
peak_text (Some top) = codes "peak " ++ decimal top.value ++ codes " at line " ++ decimal (top.place + 1) ++ 10 ∷ []

-- from which line on
abbrev pub from_text : ℕ → List ℕ
from_text first = codes " from line " ++ decimal first ++ 10 ∷ []

-- the line of a stretch of *n* lines with a buffer that is not writable
abbrev pub stretch_text : ℕ → ℕ → List ℕ
stretch_text lines first = codes "unwritable " ++ decimal lines ++ from_text first

-- the line of the longest such stretch, by its last line
abbrev pub longest_text : Option Top → List ℕ
longest_text None = codes "unwritable 0" ++ 10 ∷ []
longest_text (Some top) =
    if top.value == 0 then codes "unwritable 0" ++ 10 ∷ [] else stretch_text top.value (top.place + 2 - top.value)

-- the lines of the promises, by outcome
abbrev pub settlements_text : Settlements → List ℕ
settlements_text settled =
    number_line (codes "success") settled.success ++ number_line (codes "failed") settled.failed
    ++ number_line (codes "cancelled") settled.cancelled

-- the lines of what was asked
abbrev pub asked_text : Summary → List ℕ
asked_text summary =
    number_line (codes "lines") summary.lines ++ number_line (codes "accepted") summary.accepted
    ++ refused_text summary.refused summary.refusals.items

-- the lines of the pending bytes and of writability
abbrev pub levels_text : Summary → List ℕ
levels_text summary =
    peak_text summary.peak ++ number_line (codes "stops") summary.stops ++ number_line (codes "goes") summary.goes
    ++ longest_text summary.longest ++ number_line (codes "pending") summary.pending

-- the text of a summary
abbrev pub summary_text : Summary → List ℕ
summary_text summary = asked_text summary ++ levels_text summary ++ settlements_text summary.settled

-- a text is that of the summary of these lines
abbrev pub TellsSummary : List TraceLine → List ℕ → Type 0
TellsSummary lines text = (summary : Summary) × Summarizes lines summary × (text ≡ summary_text summary)
