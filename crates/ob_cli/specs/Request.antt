-- How a request ends, what the program makes of a script, by what it is asked for, and how the program ends.
use Rattle.std.specs.Io.KnownBytes.{Appends, Keeps}
use Rattle.std.specs.Prelude.{◌≡◌, ℕ, Result, Ok, Err, List, [], Option, None, Some, IfSome}
use Rattle.ob_script.specs.Reading.{script_fault, script_lines}
use Rattle.ob_script.specs.Tracing.{trace_of, trace_of_first}
use Rattle.ob_script.specs.declared.reading.fault.LineFault.{LineFault}
use Rattle.ob_script.specs.declared.script_fault.ScriptFault.{ScriptFault}
use Rattle.ob_script.specs.declared.script_fault.ScriptFault.TheVariants.{Line, Read, TooLong, Write, NoMemory}
use Rattle.ob_traces.specs.Draw.{TellsPicture}
use Rattle.ob_traces.specs.Summary.{TellsSummary}
use Rattle.ob_traces.specs.Telling.{WritesOfTrace}
use Rattle.ob_traces.specs.Traces.{trace_grammar}
use Rattle.ob_cli.specs.Drive.{WritesReport, drive_grammar, plans_of}
use Rattle.ob_cli.specs.Run.{first_history, run_grammar, run_language}
use Rattle.ob_cli.specs.Turns.{core_grammar, core_language}
use Rattle.ob_cli.specs.declared.cli.fault.EntryFault.{EntryFault}
use Rattle.ob_cli.specs.declared.cli.fault.EntryFault.TheVariants.{CommandLine, NoSubcommand, ListAsked, BadMarks}
use Rattle.ob_cli.specs.declared.cli.fault.EntryFault.TheVariants.{NoMemory, Run}
use Rattle.ob_cli.specs.declared.cli.options.Options.{Options}
use Rattle.ob_cli.specs.declared.cli.request.Request.{Request}
use Rattle.ob_cli.specs.declared.cli.request.Request.TheVariants.{Run, Core, Drive, Summary, Draw}
use Rattle.ob_cli.specs.declared.request_fault.RequestFault.{RequestFault}
use Rattle.ob_cli.specs.declared.request_fault.RequestFault.TheVariants.{Script, Drive}

-- of what came of the script this holds; of a drive that came to no report nothing is said
abbrev pub OfScript : {T : Type 0} → Result T RequestFault → (Result T ScriptFault → Type 0) → Type 0
OfScript (Ok done) Holds = Holds (Ok done)
OfScript (Err (Script fault)) Holds = Holds (Err fault)
OfScript (Err (Drive fault)) Holds = Unit {0}

-- a fault of driving what was read
abbrev pub IsFaultOfDrive : RequestFault → Type 0
IsFaultOfDrive (Script fault) = fault ≡ NoMemory
IsFaultOfDrive (Drive fault) = Unit {0}

-- the status with which the program ends after a fault of a script
abbrev pub script_status : ScriptFault → ℕ
script_status (Line number fault) = 2
script_status Read = 3
script_status TooLong = 3
script_status Write = 3
script_status NoMemory = 4

-- the status with which the program ends after a fault of a request
abbrev pub status_of : RequestFault → ℕ
status_of (Script fault) = script_status fault
status_of (Drive fault) = 5

-- the fault that ends the script
abbrev pub requested_fault : Request → List ℕ → Option (ℕ × LineFault)
requested_fault (Run options) script = script_fault run_grammar script
requested_fault (Core marks) script = script_fault core_grammar script
requested_fault (Drive options) script = script_fault drive_grammar script
requested_fault Summary script = script_fault trace_grammar script
requested_fault (Draw marks) script = script_fault trace_grammar script

-- a drive writes its report and nothing else, and if a line is faulty it writes nothing
abbrev pub WritesDrive : Options → List ℕ → Option (ℕ × LineFault) → Option (List ℕ) → Option (List ℕ) → Type 0
WritesDrive options script None old new = WritesReport options (plans_of (script_lines drive_grammar script)) old new
WritesDrive options script (Some fault) old new = Keeps old new

-- what is asked for is written and nothing else, if this fault, if any, ends the script: the trace, what a drive
-- writes, or what is told of a trace
abbrev pub WritesRequested : Request → List ℕ → Option (ℕ × LineFault) → Option (List ℕ) → Option (List ℕ) → Type 0
WritesRequested (Run options) script fault old new =
    Appends old new (trace_of (run_language (first_history options)) script)
WritesRequested (Core marks) script fault old new = Appends old new (trace_of (core_language marks) script)
WritesRequested (Drive options) script fault old new = WritesDrive options script fault old new
WritesRequested Summary script fault old new = WritesOfTrace TellsSummary script old new
WritesRequested (Draw marks) script fault old new = WritesOfTrace (TellsPicture marks) script old new

-- the trace of the first *n* lines, of those that are carried out; a drive, a summary and a picture have none
abbrev pub requested_trace_of_first : ℕ → Request → List ℕ → List ℕ
requested_trace_of_first count (Run options) script = trace_of_first count (run_language (first_history options)) script
requested_trace_of_first count (Core marks) script = trace_of_first count (core_language marks) script
requested_trace_of_first count (Drive options) script = []
requested_trace_of_first count Summary script = []
requested_trace_of_first count (Draw marks) script = []

-- the status with which the program ends after a fault
abbrev pub exit_status_of : EntryFault → ℕ
exit_status_of (CommandLine error) = 1
exit_status_of NoSubcommand = 1
exit_status_of ListAsked = 1
exit_status_of (BadMarks marks) = 1
exit_status_of NoMemory = 4
exit_status_of (Run kind fault) = status_of fault

-- the status with which the program ends after its work
abbrev pub status_after : {T : Type 0} → Result T EntryFault → ℕ
status_after (Ok done) = 0
status_after (Err fault) = exit_status_of fault

-- for something that the program may be asked for, what that makes of the script is written and nothing else, and the
-- fault that ends the script is this one
abbrev pub WritesWhole : List ℕ → Option (ℕ × LineFault) → Option (List ℕ) → Option (List ℕ) → Type 0
WritesWhole script fault old new =
    (request : Request) × WritesRequested request script fault old new × (requested_fault request script ≡ fault)

-- for something that the program may be asked for, the trace of some first lines of the script is written and nothing
-- else
abbrev pub WritesTraceOfFirst : List ℕ → Option (List ℕ) → Option (List ℕ) → Type 0
WritesTraceOfFirst script old new = (request : Request) × (count : ℕ)
    × Appends old new (requested_trace_of_first count request script)

-- what the program leaves, by the status with which it ends
pub record Leaves {R : Type 0} (status : ℕ) (reader later : R) (had old new : Option (List ℕ)) : Type 0 where
  -- status 0: the trace of a script without a fault, the report of its drive, or what is told of a trace
  pub traced : status ≡ 0 → IfSome had (λ script. WritesWhole script None old new)
  -- status 1: the command line is refused, and nothing of the script is read
  pub refused : status ≡ 1 → Keeps old new
  pub unread : status ≡ 1 → later ≡ reader
  -- status 2: the trace up to the faulty line, or what is told of the lines before it, and nothing of a drive
  pub cut_short : status ≡ 2 → IfSome had (λ script. (fault : ℕ × LineFault) × WritesWhole script (Some fault) old new)
  -- status 4: the trace of some first lines
  pub no_memory : status ≡ 4 → IfSome had (λ script. WritesTraceOfFirst script old new)
  -- status 5: a drive came to no report, and nothing is written
  pub undriven : status ≡ 5 → Keeps old new
