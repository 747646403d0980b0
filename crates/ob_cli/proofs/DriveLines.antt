-- Drive scripts: what a session has kept, one line after another, the lines of a history, and what is said if writing
-- the report fails.
use Rattle.std.proofs.Common.{◌≡◌, ◌∙◌, ◌++◌, List, [], ◌∷◌, ap, refl, ℕ, Option, Err, false, None, Some, sym}
use Rattle.std.proofs.lemmas.List.{append_assoc}
use Rattle.std.proofs.lemmas.List.Elements.{filter_map-append}
use Rattle.std.specs.Prelude.{IsErrOf, filter_map, is_some, slice_get}
use Rattle.std.specs.List.{cons_option}
use Rattle.ob_seq.specs.Rows.{Settings}
use Rattle.ob_history.specs.declared.record.Record.{Record}
use Rattle.ob_script.specs.Reading.{Grammar}
use Rattle.ob_script.specs.Tracing.{IsWritingFault, WentThrough, GoesThrough}
use Rattle.ob_script.specs.declared.script_fault.ScriptFault.{ScriptFault}
use Rattle.ob_script.specs.declared.script_fault.ScriptFault.TheVariants.{Line, Read, TooLong, Write, NoMemory}
use Rattle.ob_cli.specs.More.{line_behind, lines_from, lines_of}
use Rattle.ob_cli.specs.Drive.{after_of, first_told, step_of, passes_of, writer_line_of}
use Rattle.ob_cli.specs.Inside.{HasKept}
use Rattle.ob_cli.specs.declared.drive.line.DriveLine.{DriveLine}
use Rattle.ob_cli.specs.declared.drive.session.DriveSession.{DriveSession}

-- one record more gives one line more
lines_from-one_more : (settings : Settings) (before records : List Record) (one : Record) →
    lines_from settings before (records ++ one ∷ [])
    ≡ lines_from settings before records ++ line_behind settings (before ++ (records ++ one ∷ [])) one ∷ []
lines_from-one_more settings before [] one = refl
lines_from-one_more settings before (first ∷ more) one =
    let behind = before ++ first ∷ [] in
    ap (λ rest. line_behind settings behind first ∷ rest)
    (lines_from-one_more settings behind more one
    ∙ ap (λ all. lines_from settings behind more ++ line_behind settings all one ∷ [])
    (append_assoc before (first ∷ []) (more ++ one ∷ [])))

pub lines_of-one_more : (settings : Settings) (records : List Record) (one : Record) →
    lines_of settings (records ++ one ∷ [])
    ≡ lines_of settings records ++ line_behind settings (records ++ one ∷ []) one ∷ []
lines_of-one_more settings records one = lines_from-one_more settings [] records one

-- a fault that comes of no line, nor of the script's length
cut_short : {T L : Type 0} (grammar : Grammar L) (had left : Option (List ℕ)) (fault : ScriptFault)
    → (WentThrough {T = T} (Err fault) → ⊥) → (IsErrOf {T = T} (Err fault) TooLong → ⊥)
    → GoesThrough {T = T} grammar had left (Err fault)
cut_short grammar had left fault through long = record {
  fault = λ is. absurd (through is);
  end = λ is. absurd (through is);
  within = λ is. absurd (through is);
  too_long = λ is. absurd (long is);
}

pub unwritten : {T L : Type 0} (grammar : Grammar L) (had left : Option (List ℕ)) (fault : ScriptFault)
    → IsWritingFault fault → GoesThrough {T = T} grammar had left (Err fault)
unwritten grammar had left Write writing = cut_short grammar had left Write (λ is. is) (λ is. cc)
unwritten grammar had left NoMemory writing = cut_short grammar had left NoMemory (λ is. is) (λ is. cc)
unwritten grammar had left (Line number fault) writing = absurd writing
unwritten grammar had left Read writing = absurd writing
unwritten grammar had left TooLong writing = absurd writing

-- one that is there, or else another
abbrev pub first_else : Option ℕ → Option ℕ → Option ℕ
first_else None other = other
first_else (Some x) other = Some x

pub first_else-None : (o : Option ℕ) → o ≡ first_else o None
first_else-None None = refl
first_else-None (Some x) = refl

pub first_else-new : (o : Option ℕ) (x : ℕ) → is_some o ≡ false → Some x ≡ first_else o (Some x)
first_else-new None x none = refl
first_else-new (Some y) x none = absurd cc

first-more : (xs : List ℕ) (o : Option ℕ) → first_else (slice_get xs 0) o ≡ slice_get (xs ++ cons_option o []) 0
first-more [] None = refl
first-more [] (Some x) = refl
first-more (first ∷ xs) o = refl

first_told-more : (told : DriveLine → Option ℕ) (lines : List DriveLine) (line : DriveLine)
    → first_else (first_told told lines) (told line) ≡ first_told told (lines ++ line ∷ [])
first_told-more told lines line =
    first-more (filter_map told lines) (told line)
    ∙ ap (λ numbers. slice_get numbers 0) (sym (filter_map-append told lines (line ∷ [])))

-- a session that keeps what one more line tells has kept it with those before
pub kept-more : (old new : DriveSession) (before : List DriveLine) (line : DriveLine) → HasKept old before
    → new.writers.items ≡ old.writers.items ++ cons_option (writer_line_of line) []
    → new.steps.items ≡ old.steps.items ++ cons_option (step_of line) []
    → new.after ≡ first_else old.after (after_of line) → new.turns ≡ first_else old.turns (passes_of line)
    → HasKept new (before ++ line ∷ [])
kept-more old new before line kept writers steps after turns = (
  writers ∙ ap (λ own. own ++ cons_option (writer_line_of line) []) kept.0
      ∙ sym (filter_map-append writer_line_of before (line ∷ [])),
  steps ∙ ap (λ some. some ++ cons_option (step_of line) []) kept.1
      ∙ sym (filter_map-append step_of before (line ∷ [])),
  after ∙ ap (λ o. first_else o (after_of line)) kept.2 ∙ first_told-more after_of before line,
  turns ∙ ap (λ o. first_else o (passes_of line)) kept.3 ∙ first_told-more passes_of before line,
)
