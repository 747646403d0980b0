-- The trace of a script: a line of text for each line that is carried out, and what its language puts behind them. And
-- how a script is interpreted, by what the reader had and has left, and what the writer had and has.
use Rattle.std.specs.Fmt.{decimal, digits, padded_integral, format_spec}
use Rattle.std.specs.Io.KnownBytes.{Appends, IsAtEnd, Keeps}
use Rattle.std.specs.Prelude.{ℕ, List, [], ◌∷◌, ◌++◌, take, Option, None, Some, ◌+◌, ◌^◌, ◌-◌, ◌/◌, ◌%◌, false, codes}
use Rattle.std.specs.Prelude.{Result, Ok, Err, ◌≡◌, ◌≤◌, ◌<◌, length, IfSome, IsErrOf}
use Rattle.ob_types.specs.declared.reply.Change.{Change}
use Rattle.ob_types.specs.declared.reply.Change.TheVariants.{Unwritable, Writable}
use Rattle.ob_script.specs.Reading.{Grammar, script_lines, script_fault, greatest_script}
use Rattle.ob_script.specs.declared.reading.fault.LineFault.{LineFault}
use Rattle.ob_script.specs.declared.script_fault.ScriptFault.{ScriptFault}
use Rattle.ob_script.specs.declared.script_fault.ScriptFault.TheVariants.{Line, Read, TooLong, Write, NoMemory}

-- what is told of lines: the trace line of a line behind these, and the text behind the trace of all lines
pub record Texts (L : Type 0) : Type 0 where
  pub line_text : List L → L → List ℕ
  pub last_text : List L → List ℕ

-- what lines say, and what is told of them
pub record Language (L : Type 0) : Type 0 where
  pub grammar : Grammar L
  pub texts : Texts L

-- the trace of lines behind others: a line of text for each
abbrev pub trace_behind : {L : Type 0} → Texts L → List L → List L → List ℕ
trace_behind texts before [] = []
trace_behind texts before (line ∷ lines) = texts.line_text before line
    ++ trace_behind texts (before ++ line ∷ []) lines

-- the text behind the lines of a script, by its fault: nothing if there is one
abbrev pub text_unless : Option (ℕ × LineFault) → List ℕ → List ℕ
text_unless None text = text
text_unless (Some fault) text = []

-- the trace of all lines of a script that are carried out
abbrev pub trace_of_lines : {L : Type 0} → Language L → List ℕ → List ℕ
trace_of_lines language script = trace_behind language.texts [] (script_lines language.grammar script)

-- the trace of a script
abbrev pub trace_of : {L : Type 0} → Language L → List ℕ → List ℕ
trace_of language script =
    trace_of_lines language script
    ++ text_unless (script_fault language.grammar script) (language.texts.last_text (script_lines language.grammar script))

-- the trace of the first *n* lines of a script, of those that are carried out
abbrev pub trace_of_first : {L : Type 0} → ℕ → Language L → List ℕ → List ℕ
trace_of_first count language script = trace_behind language.texts [] (take count (script_lines language.grammar script))

-- a number below 100 in two decimal digits
abbrev pub two_digits : ℕ → List ℕ
two_digits number = (48 + number / 10) ∷ (48 + number % 10) ∷ []

-- a number in eight hexadecimal digits
abbrev pub eight_hex : ℕ → List ℕ
eight_hex number = padded_integral (format_spec 32 0 4 8 (2 ^ 64 - 1)) false [] (digits 16 false number)

-- a word
abbrev pub word_text : ℕ → List ℕ
word_text word = codes " w=" ++ eight_hex word

-- a total and a word
abbrev pub words_text : ℕ → ℕ → List ℕ
words_text total word = codes " t=" ++ decimal total ++ word_text word

-- a change of writability, or nothing if there is none
abbrev pub change_text : Option Change → List ℕ
change_text None = []
change_text (Some Unwritable) = codes " -"
change_text (Some Writable) = codes " +"

-- a line of a report: its word, a space, and a number
abbrev pub number_line : List ℕ → ℕ → List ℕ
number_line word number = word ++ codes " " ++ decimal number ++ 10 ∷ []

-- the fault of a line that a run tells, with the line's number
abbrev pub fault_told : {T : Type 0} → Result T ScriptFault → Option (ℕ × LineFault)
fault_told (Ok done) = None
fault_told (Err (Line number fault)) = Some (number, fault)
fault_told (Err Read) = None
fault_told (Err TooLong) = None
fault_told (Err Write) = None
fault_told (Err NoMemory) = None

-- a run went through the script to its end, or to its first faulty line
abbrev pub WentThrough : {T : Type 0} → Result T ScriptFault → Type 0
WentThrough (Ok done) = Unit {0}
WentThrough (Err (Line number fault)) = Unit {0}
WentThrough (Err Read) = ⊥
WentThrough (Err TooLong) = ⊥
WentThrough (Err Write) = ⊥
WentThrough (Err NoMemory) = ⊥

-- a fault of reading a script
abbrev pub IsReadingFault : ScriptFault → Type 0
IsReadingFault (Line number fault) = ⊥
IsReadingFault Read = Unit {0}
IsReadingFault TooLong = Unit {0}
IsReadingFault Write = ⊥
IsReadingFault NoMemory = Unit {0}

-- a fault of writing a text
abbrev pub IsWritingFault : ScriptFault → Type 0
IsWritingFault (Line number fault) = ⊥
IsWritingFault Read = ⊥
IsWritingFault TooLong = ⊥
IsWritingFault Write = Unit {0}
IsWritingFault NoMemory = Unit {0}

-- a script is gone through to its end or to its first faulty line: that one's fault is told, the reader is at its end,
-- and the script has at most as many bytes as one may have; it is too long if it has more
pub record GoesThrough {T L : Type 0} (grammar : Grammar L) (had left : Option (List ℕ)) (result : Result T ScriptFault)
    : Type 0 where
  pub fault : WentThrough result → IfSome had (λ script. fault_told result ≡ script_fault grammar script)
  pub end : WentThrough result → IsAtEnd left
  pub within : WentThrough result → IfSome had (λ script. length script ≤ greatest_script)
  pub too_long : IsErrOf result TooLong → IfSome had (λ script. greatest_script < length script)

-- a script is interpreted in a language
pub record Interprets {T L : Type 0} (language : Language L) (had left old new : Option (List ℕ))
    (result : Result T ScriptFault) : Type 0 where
  -- at the end of the script or at its first faulty line, the trace of what was read is written and nothing else
  pub through : GoesThrough language.grammar had left result
  pub trace : WentThrough result → IfSome had (λ script. Appends old new (trace_of language script))
  -- when memory runs out, the trace of some first lines is written and nothing else
  pub no_memory : IsErrOf result NoMemory → IfSome had (λ script.
      (count : ℕ) × Appends old new (trace_of_first count language script))
  -- a script that was not read leaves the writer alone
  pub unread : IsErrOf result Read → Keeps old new
  pub too_long_unwritten : IsErrOf result TooLong → Keeps old new
