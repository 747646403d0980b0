-- What the program leaves if a line is faulty, and if memory runs out.
use Rattle.std.proofs.Common.{◌≡◌, ◌≤◌, ℕ, arith, List, Option, None, Some, Err, IfSome, append-nil, refl, sym}
use Rattle.std.specs.Prelude.{IsErrOf}
use Rattle.std.specs.Io.KnownBytes.{Appends}
use Rattle.ob_script.specs.Tracing.{WentThrough, fault_told}
use Rattle.ob_script.specs.declared.reading.fault.LineFault.{LineFault}
use Rattle.ob_script.specs.declared.script_fault.ScriptFault.TheVariants.{Line, Read, TooLong, Write, NoMemory}
use Rattle.ob_cli.specs.Request.{WritesTraceOfFirst, WritesWhole, OfScript, status_of, WritesRequested, requested_fault}
use Rattle.ob_cli.specs.Request.{requested_trace_of_first}
use Rattle.ob_cli.specs.declared.request_fault.RequestFault.{RequestFault}
use Rattle.ob_cli.specs.declared.request_fault.RequestFault.TheVariants.{Script, Drive}
use Rattle.ob_cli.specs.declared.cli.request.Request.{Request}
use Rattle.ob_cli.specs.declared.cli.request.Request.TheVariants.{Core}

-- no fault of a request has a status below 2
pub two_at_least : (fault : RequestFault) → 2 ≤ status_of fault
two_at_least (Script (Line number fault)) = omega arith
two_at_least (Script Read) = omega arith
two_at_least (Script TooLong) = omega arith
two_at_least (Script Write) = omega arith
two_at_least (Script NoMemory) = omega arith
two_at_least (Drive fault) = omega arith

-- a run to the end of its script writes all that it was asked for
pub whole : (request : Request) (read : Option (List ℕ)) (old new : Option (List ℕ))
    → IfSome read (λ script. WritesRequested request script None old new)
    → IfSome read (λ script. None ≡ requested_fault request script)
    → IfSome read (λ script. WritesWhole script None old new)
whole request None old new written told = tt
whole request (Some script) old new written told = (request, written, sym told)

-- the status 2 comes of a faulty line alone, up to which all is written
cut_short_at : (request : Request) (fault : RequestFault) (script : List ℕ) (old new : Option (List ℕ))
    → status_of fault ≡ 2
    → OfScript {T = Unit {0}} (Err fault) (λ ended. WentThrough ended
    → WritesRequested request script (fault_told ended) old new)
    → OfScript {T = Unit {0}} (Err fault) (λ ended. WentThrough ended
    → fault_told ended ≡ requested_fault request script)
    → (told : ℕ × LineFault) × WritesWhole script (Some told) old new
cut_short_at request (Script (Line number fault)) script old new status written told =
    ((number, fault), (request, written tt, sym (told tt)))
cut_short_at request (Script Read) script old new status written told = absurd cc
cut_short_at request (Script TooLong) script old new status written told = absurd cc
cut_short_at request (Script Write) script old new status written told = absurd cc
cut_short_at request (Script NoMemory) script old new status written told = absurd cc
cut_short_at request (Drive fault) script old new status written told = absurd cc

-- and so if the script is known
pub cut_short : (request : Request) (fault : RequestFault) (read : Option (List ℕ)) (old new : Option (List ℕ))
    → status_of fault ≡ 2
    → OfScript {T = Unit {0}} (Err fault) (λ ended. WentThrough ended
    → IfSome read (λ script. WritesRequested request script (fault_told ended) old new))
    → OfScript {T = Unit {0}} (Err fault) (λ ended. WentThrough ended
    → IfSome read (λ script. fault_told ended ≡ requested_fault request script))
    → IfSome read (λ script. (told : ℕ × LineFault) × WritesWhole script (Some told) old new)
cut_short request fault None old new status written told = tt
cut_short request fault (Some script) old new status written told =
    cut_short_at request fault script old new status written told

-- if no script was read, nothing was written, and that is the trace of no lines
untraced_at : (script : List ℕ) (held : Option (List ℕ)) → WritesTraceOfFirst script held held
untraced_at script None = (Core (record { low = 0; high = 0 }), 0, tt)
untraced_at script (Some bytes) = (Core (record { low = 0; high = 0 }), 0, sym (append-nil bytes))

pub untraced : (read held : Option (List ℕ)) → IfSome read (λ script. WritesTraceOfFirst script held held)
untraced None held = tt
untraced (Some script) held = untraced_at script held

-- the status 4 comes of want of memory alone, up to which the trace of some first lines is written
out_of_memory_at : (request : Request) (fault : RequestFault) (script : List ℕ) (old new : Option (List ℕ))
    → status_of fault ≡ 4
    → (IsErrOf {T = Unit {0}} (Err fault) (Script NoMemory)
    → (count : ℕ) × Appends old new (requested_trace_of_first count request script))
    → WritesTraceOfFirst script old new
out_of_memory_at request (Script NoMemory) script old new status traced =
    let told = traced refl in (request, told.0, told.1)
out_of_memory_at request (Script (Line number fault)) script old new status traced = absurd cc
out_of_memory_at request (Script Read) script old new status traced = absurd cc
out_of_memory_at request (Script TooLong) script old new status traced = absurd cc
out_of_memory_at request (Script Write) script old new status traced = absurd cc
out_of_memory_at request (Drive fault) script old new status traced = absurd cc

-- and so if the script is known
pub out_of_memory : (request : Request) (fault : RequestFault) (read : Option (List ℕ)) (old new : Option (List ℕ))
    → status_of fault ≡ 4
    → (IsErrOf {T = Unit {0}} (Err fault) (Script NoMemory)
    → IfSome read (λ script. (count : ℕ) × Appends old new (requested_trace_of_first count request script)))
    → IfSome read (λ script. WritesTraceOfFirst script old new)
out_of_memory request fault None old new status traced = tt
out_of_memory request fault (Some script) old new status traced =
    out_of_memory_at request fault script old new status traced
