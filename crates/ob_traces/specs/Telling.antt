-- What is told of a trace, by what the reader had and has left, and what the writer had and has.
use Rattle.std.specs.Io.KnownBytes.{Appends, Keeps}
use Rattle.std.specs.Prelude.{◌≤◌, ℕ, List, [], ◌∷◌, Option, None, Some, Result, IfErr, IfSome, IsErrOf}
use Rattle.ob_script.specs.Reading.{script_fault, script_lines}
use Rattle.ob_script.specs.Tracing.{WentThrough, GoesThrough}
use Rattle.ob_script.specs.declared.reading.fault.LineFault.{LineFault}
use Rattle.ob_script.specs.declared.script_fault.ScriptFault.{ScriptFault}
use Rattle.ob_script.specs.declared.script_fault.ScriptFault.TheVariants.{Read, TooLong, NoMemory}
use Rattle.ob_traces.specs.Traces.{trace_grammar}
use Rattle.ob_traces.specs.declared.traces.line.TraceLine.{TraceLine}

-- what is told of lines is written and nothing else
abbrev pub WritesTold : (List TraceLine → List ℕ → Type 0) → List TraceLine → Option (List ℕ) → Option (List ℕ) → Type 0
WritesTold Tells lines old new = (told : List ℕ) × Tells lines told × Appends old new told

-- what is told of lines before this fault, if there is one, is written and nothing else; if the first line has the fault,
-- nothing is written
abbrev pub WritesBefore :
    (List TraceLine → List ℕ → Type 0) → Option (ℕ × LineFault) → List TraceLine → Option (List ℕ) → Option (List ℕ) → Type 0
WritesBefore Tells None lines old new = WritesTold Tells lines old new
WritesBefore Tells (Some fault) [] old new = Keeps old new
WritesBefore Tells (Some fault) (line ∷ lines) old new = WritesTold Tells (line ∷ lines) old new

-- what is told of a trace is written, up to the first line that is of none
abbrev pub WritesOfTrace :
    (List TraceLine → List ℕ → Type 0) → List ℕ → Option (List ℕ) → Option (List ℕ) → Type 0
WritesOfTrace Tells trace old new =
    WritesBefore Tells (script_fault trace_grammar trace) (script_lines trace_grammar trace) old new

-- a trace is told of
pub record TellsOfTrace {T : Type 0} (Tells : List TraceLine → List ℕ → Type 0) (had left old new : Option (List ℕ))
    (result : Result T ScriptFault) : Type 0 where
  -- at its end, or at the first line that is of no trace, what is told of the lines before is written and nothing else
  pub through : GoesThrough trace_grammar had left result
  pub told : WentThrough result → IfSome had (λ trace. WritesOfTrace Tells trace old new)
  -- without the memory, or without the trace, nothing is written
  pub no_memory : IsErrOf result NoMemory → Keeps old new
  pub unread : IsErrOf result Read → Keeps old new
  pub too_long_unwritten : IsErrOf result TooLong → Keeps old new
