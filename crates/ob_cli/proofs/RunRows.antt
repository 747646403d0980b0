-- The definitions at worked rows, by computation.
use Rattle.std.proofs.Common.{◌≡◌, ℕ, List, [], ◌∷◌, refl, codes, Some}
use Rattle.std.specs.Prelude.{map}
use Rattle.std.specs.Fmt.{digits, padded_integral, char_count}
use Rattle.ob_history.specs.History.{new_history}
use Rattle.ob_seq.specs.State.{user_bits}
use Rattle.ob_script.specs.Reading.{script_lines, script_fault}
use Rattle.ob_script.specs.Tracing.{Language, trace_of}
use Rattle.ob_types.specs.declared.command.Command.TheVariants.{Write, Flush, Remove, RemoveWith, Progress, Cancel}
use Rattle.ob_types.specs.declared.message.Message.TheVariants.{Region, Other}
use Rattle.ob_script.specs.declared.reading.fault.LineFault.TheVariants.{Misplaced, OutOfRange, TooFewWords}
use Rattle.ob_cli.specs.Run.{run_language}
use Rattle.ob_cli.specs.declared.run.line.RunLine.{RunLine}
use Rattle.ob_cli.specs.declared.run.line.RunLine.TheVariants.{Block, Command}

-- the language of `run` with the options of most rows
abbrev language : Language RunLine
language =
    run_language
    (new_history
    (record { marks = record { low = 200; high = 400 }; estimate = record { overhead = 96; unknown = 8 } }) 1048576)

-- Netty's marks and sizes, and at most three records
abbrev limited : Language RunLine
limited =
    run_language
    (new_history
    (record { marks = record { low = 32768; high = 65536 }; estimate = record { overhead = 96; unknown = 8 } }) 3)

-- the lines of a script
the_lines : script_lines language.grammar (codes "b 304\nb 0\nf\nrm\n")
    ≡ Block 304 ∷ Block 0 ∷ Command Flush ∷ Command Remove ∷ []
the_lines = refl

-- and of another, with the greatest numbers
the_greatest_numbers : script_lines language.grammar
    (codes "r 18446744073709551615\no 4294967295\nrc 4294967295\np 18446744073709551615\nx 4294967295\n")
    ≡ Command (Write (Region 18446744073709551615)) ∷ Command (Write (Other 4294967295)) ∷ Command
    (RemoveWith (record { 0 = 4294967295 }))
    ∷ Command (Progress 18446744073709551615) ∷ Command (Cancel (record { 0 = 4294967295 })) ∷ []
the_greatest_numbers = refl

-- the fault of a script
the_fault : script_fault language.grammar (codes "b 1\nb\n") ≡ Some (2, TooFewWords)
the_fault = refl

-- an id of more than 32 bits
too_great_an_id : script_fault language.grammar (codes "f\nx 4294967296") ≡ Some (2, OutOfRange)
too_great_an_id = refl

-- a script of no bytes has an empty trace
empty_script : trace_of language [] ≡ []
empty_script = refl

-- scripts with those options, and the trace of each
abbrev rows : List (List ℕ × List ℕ)
rows =
    -- the first run, line by line
    (codes "b 304\nb 0\nf\nrm\n", codes "id 0 t=400 w=00000000\nid 1 t=496 w=00000001 -\nn 2 t=496 w=00000001\nyes t=96 w=00000000 + 0:ok\n") ∷
    -- equality with the low mark clears nothing
    (codes "b 204\nb 104\nf\nrm\nrm\n", codes "id 0 t=300 w=00000000\nid 1 t=500 w=00000001 -\nn 2 t=500 w=00000001\nyes t=200 w=00000001 0:ok\nyes t=0 w=00000000 + 1:ok\n") ∷
    -- a look at a buffer that is not writable, of which nothing is flushed
    (codes "b 304\nb 0\n?", codes "id 0 t=400 w=00000000\nid 1 t=496 w=00000001 -\nsize=0 cur=0 bu=0 bw=297 t=496 w=00000001\n") ∷
    -- a cancelled entry is voided at the flush
    (codes "b 304\nb 4\nx 0\nf\nrm\nrm\n", codes "id 0 t=400 w=00000000\nid 1 t=500 w=00000001 -\nyes t=500 w=00000001 0:x\nn 2 t=100 w=00000000 +\nyes t=100 w=00000000\nyes t=0 w=00000000 1:ok\n") ∷
    -- regions and other messages, progress, and a removal with a cause
    (codes "r 9\no 7\nf\np 5\n?\nrc 9\n", codes "id 0 t=96 w=00000000\nid 1 t=200 w=00000000\nn 2 t=200 w=00000000\nok t=200 w=00000000\nsize=2 cur=5 bu=201 bw=0 t=200 w=00000000\nyes t=104 w=00000000 0:f9\n") ∷
    -- bytes are removed from the front
    (codes "b 3\nb 0\nb 5\nf\nrb 3\nrb 2\nrb 4\n", codes "id 0 t=99 w=00000000\nid 1 t=195 w=00000000\nid 2 t=296 w=00000000\nn 3 t=296 w=00000000\nn 2 t=101 w=00000000 0:ok 1:ok\nn 0 t=101 w=00000000\n!7 t=101 w=00000000\n") ∷
    -- user bits stand in the word beside the mark
    (codes "u 5 0\nb 400\nf\nrm\nu 5 1\nu 0 0\n", codes "ok t=0 w=00000020 -\nid 0 t=496 w=00000021\nn 1 t=496 w=00000021\nyes t=0 w=00000020 0:ok\nok t=0 w=00000000 +\n!8 t=0 w=00000000\n") ∷
    -- what is flushed fails without notice, and a buffer is closed once
    (codes "b 400\nf\nb 4\ncl 7\nfl 7 0\ncl 7\nb 1\n", codes "id 0 t=496 w=00000001 -\nn 1 t=496 w=00000001\nid 1 t=596 w=00000001\n!9 t=596 w=00000001\nn 1 t=100 w=00000001 0:f7\nn 1 t=0 w=00000001 1:f7\n!4 t=0 w=00000001\n") ∷
    -- marks are raised, and then lowered, while the buffer is open
    (codes "b 304\nb 0\nm 600 700\n?\nb 0\nf\nrm\n", codes "id 0 t=400 w=00000000\nid 1 t=496 w=00000001 -\nok t=496 w=00000001\nsize=0 cur=0 bu=0 bw=0 t=496 w=00000001\nid 2 t=592 w=00000001\nn 3 t=592 w=00000001\nyes t=192 w=00000000 + 0:ok\n") ∷
    (codes "b 304\nm 0 100\n?\nb 0\nm 5 4\n", codes "id 0 t=400 w=00000000\nok t=400 w=00000000\nsize=0 cur=0 bu=0 bw=0 t=400 w=00000000\nid 1 t=496 w=00000001 -\n") ∷
    []

-- scripts behind which the history is full
abbrev limited_rows : List (List ℕ × List ℕ)
limited_rows =
    -- a command after three records is refused, and leaves no record
    (codes "b 1\nb 1\nf\nrm\n", codes "id 0 t=97 w=00000000\nid 1 t=194 w=00000000\nn 2 t=194 w=00000000\n!11 t=194 w=00000000\n") ∷
    -- a refused command leaves a record too
    (codes "x 5\nb 1\nf\nf\n", codes "!10 t=0 w=00000000\nid 0 t=97 w=00000000\nn 1 t=97 w=00000000\n!11 t=97 w=00000000\n") ∷
    -- a look and a gathering leave no record, and answer a full history too
    (codes "?\nb 3\ng 8 8\nf\nrb 1\nrm\n?\ng 8 8\n", codes "size=0 cur=0 bu=65537 bw=0 t=0 w=00000000\nid 0 t=99 w=00000000\ng t=99 w=00000000\nn 1 t=99 w=00000000\nn 0 t=99 w=00000000\n!11 t=99 w=00000000\nsize=1 cur=1 bu=65438 bw=0 t=99 w=00000000\ng 2 t=99 w=00000000\n") ∷
    []

-- each script has its trace
the_traces : map (λ row. trace_of language row.0) rows ≡ map (λ row. row.1) rows
unfolding user_bits digits padded_integral char_count
the_traces = refl

the_limited_traces : map (λ row. trace_of limited row.0) limited_rows ≡ map (λ row. row.1) limited_rows
unfolding user_bits digits padded_integral char_count
the_limited_traces = refl

-- a low mark above the high one is misplaced
a_low_mark_above_the_high_one : script_fault language.grammar (codes "b 304\nm 0 100\n?\nb 0\nm 5 4\n") ≡ Some (5, Misplaced)
a_low_mark_above_the_high_one = refl
