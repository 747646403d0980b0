-- The definitions of core scripts at worked rows, by computation.
use Rattle.std.proofs.Common.{◌≡◌, [], ◌++◌, refl, codes, Some}
use Rattle.std.specs.Fmt.{digits, padded_integral, char_count}
use Rattle.ob_script.specs.Reading.{script_fault}
use Rattle.ob_script.specs.Tracing.{Language, trace_of}
use Rattle.ob_script.specs.declared.reading.fault.LineFault.TheVariants.{Misplaced}
use Rattle.ob_cli.specs.Turns.{core_language}
use Rattle.ob_cli.specs.declared.turns.line.CoreLine.{CoreLine}

-- the language of `core` with the marks of the rows
abbrev language : Language CoreLine
language = core_language (record { low = 50; high = 100 })

-- a script of no bytes has an empty trace
empty_script : trace_of language [] ≡ []
empty_script = refl

-- a turn before the first lane
no_lane : script_fault language.grammar (codes "k 0") ≡ Some (1, Misplaced)
no_lane = refl

-- a lane after a turn
late_lane : script_fault language.grammar (codes "lane 9 0\nw 0\nlane 9 0")
    ≡ Some (3, Misplaced)
late_lane = refl

-- a mark set with the add that passes high, and cleared with the subtract that comes below low
a_mark_set_and_cleared : trace_of language (codes "lane 200 0\nlane 200 0\nc 1 80\nc 0 30\nd 1\nk 1\nk 0\n")
    ≡ codes "lane 0\nlane 1\nadd t=80 w=00000000\nadd t=110 w=00000001 -\n"
    ++ codes "sub t=30 w=00000000 +\n!6 t=30 w=00000000\n!6 t=30 w=00000000\nend quiet owed=30\n"
unfolding digits padded_integral char_count
a_mark_set_and_cleared = refl
