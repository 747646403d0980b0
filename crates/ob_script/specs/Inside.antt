-- Where the reading of a script stands, and how the work on it ends. No public clause cites this module.
use Rattle.std.specs.Io.KnownBytes.{Appends, append_known}
use Rattle.std.specs.Prelude.{◌≡◌, ◌+◌, ◌∷◌, ℕ, List, drop, take, Option, None, Some, Result, Ok, Err}
use Rattle.ob_script.specs.Reading.{Grammar, before_fault, first_fault, readings_behind, script_fault, script_lines}
use Rattle.ob_script.specs.Tracing.{Language, trace_of, trace_of_first, trace_of_lines}
use Rattle.ob_script.specs.declared.reading.fault.LineFault.{LineFault}
use Rattle.ob_script.specs.declared.script_fault.ScriptFault.{ScriptFault}
use Rattle.ob_script.specs.declared.script_fault.ScriptFault.TheVariants.{Line, Read, TooLong, Write, NoMemory}

-- what is left of a script, and how many lines were read
pub record Cursor : Type 0 where
  pub rest : List ℕ
  pub count : ℕ

-- the first *n* lines of a script are carried out, and these bytes are left: the further lines and the fault are those
-- of what is left
pub record StandsAt {L : Type 0} (grammar : Grammar L) (script : List ℕ) (count : ℕ) (rest : List ℕ) : Type 0 where
  pub left : drop count (script_lines grammar script)
      ≡ before_fault (readings_behind grammar (take count (script_lines grammar script)) rest)
  pub fault : script_fault grammar script
      ≡ first_fault (count + 1) (readings_behind grammar (take count (script_lines grammar script)) rest)

-- no more lines of a script are carried out than the first *n*, and this fault, if any, ends it
abbrev pub EndsAt : {L : Type 0} → Grammar L → List ℕ → ℕ → Option (ℕ × LineFault) → Type 0
EndsAt grammar script count fault =
    (take count (script_lines grammar script) ≡ script_lines grammar script) × (script_fault grammar script ≡ fault)

-- behind the first *n* lines of a script this one is carried out, and these bytes are left
abbrev pub IsFollowed : {L : Type 0} → Grammar L → List ℕ → ℕ → L → List ℕ → Type 0
IsFollowed grammar script count line rest =
    (drop count (script_lines grammar script) ≡ line ∷ drop (count + 1) (script_lines grammar script))
    × StandsAt grammar script (count + 1) rest

-- the lines are read without a fault, or up to the first faulty one, or as far as memory goes
abbrev pub ReadingEnds : {T L : Type 0} → Grammar L → List ℕ → Result T ScriptFault → Type 0
ReadingEnds grammar script (Ok done) = script_fault grammar script ≡ None
ReadingEnds grammar script (Err (Line number fault)) = script_fault grammar script ≡ Some (number, fault)
ReadingEnds grammar script (Err Read) = ⊥
ReadingEnds grammar script (Err TooLong) = ⊥
ReadingEnds grammar script (Err Write) = ⊥
ReadingEnds grammar script (Err NoMemory) = Unit {0}

-- the work on a script, if Shows says of a text that it came out: the whole trace and the script's fault, or, if
-- memory ran out, the trace of some first lines; after a failed write nothing is said, and reading is over
abbrev pub EndsWith :
    {T : Type 0} → List ℕ → (ℕ → List ℕ) → Option (ℕ × LineFault) → (List ℕ → Type 0) → Result T ScriptFault → Type 0
EndsWith whole of_first fault Shows (Ok done) = Shows whole × (fault ≡ None)
EndsWith whole of_first fault Shows (Err (Line number told)) = Shows whole × (fault ≡ Some (number, told))
EndsWith whole of_first fault Shows (Err NoMemory) = (count : ℕ) × Shows (of_first count)
EndsWith whole of_first fault Shows (Err Write) = Unit {0}
EndsWith whole of_first fault Shows (Err Read) = ⊥
EndsWith whole of_first fault Shows (Err TooLong) = ⊥

-- the work on a script
abbrev pub Ends : {T L : Type 0} → Language L → List ℕ → (List ℕ → Type 0) → Result T ScriptFault → Type 0
Ends language script Shows result =
    EndsWith (trace_of language script) (λ count. trace_of_first count language script)
    (script_fault language.grammar script) Shows result

-- the work on the lines of a script, before the text behind their trace
abbrev pub LinesEnd : {T L : Type 0} → Language L → List ℕ → (List ℕ → Type 0) → Result T ScriptFault → Type 0
LinesEnd language script Shows result =
    EndsWith (trace_of_lines language script) (λ count. trace_of_first count language script)
    (script_fault language.grammar script) Shows result

-- what a writer held at the start, and then this text, is what it holds and what waits to be written
abbrev pub HasTraced : Option (List ℕ) → Option (List ℕ) → List ℕ → List ℕ → Type 0
HasTraced start held waiting text = Appends start (append_known held waiting) text
