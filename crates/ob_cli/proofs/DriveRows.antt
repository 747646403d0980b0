-- The definitions of drive scripts at worked rows, by computation.
use Rattle.std.proofs.Common.{◌≡◌, ℕ, List, [], ◌∷◌, refl, codes, true, false, Some}
use Rattle.std.specs.Fmt.{digits, padded_integral, char_count}
use Rattle.ob_transport.specs.declared.script.SinkStep.TheVariants.{Take, Fail}
use Rattle.ob_types.specs.declared.command.Command.TheVariants.{Write, Flush, Cancel, UserBit, SetMarks}
use Rattle.ob_types.specs.declared.message.Message.TheVariants.{Block, Region, Other}
use Rattle.ob_script.specs.Reading.{script_fault, script_lines}
use Rattle.ob_script.specs.Tracing.{number_line}
use Rattle.ob_script.specs.declared.reading.fault.LineFault.TheVariants.{Misplaced, OutOfRange}
use Rattle.ob_cli.specs.Drive.{drive_grammar, most_after, most_passes, plans_of, steps_of, hand_text}

-- a script with a line of each word, and a writer without lines
abbrev script : List ℕ
script =
    codes "b 3 2 2\nf 1\ntake 4\nr 1 9\no 0 7\nfail 9\nx 3 7\nthen 0\nu 0 255 1\nturns 5\nu 0 1 0"

-- the plans of its writers
the_plans : plans_of (script_lines drive_grammar script)
    ≡ (Write (Other 7) ∷ UserBit 255 true ∷ UserBit 1 false ∷ []) ∷ (Flush ∷ Write (Region 9) ∷ []) ∷ []
    ∷ (Write (Block (3 ∷ 3 ∷ [])) ∷ Write (Block (3 ∷ 3 ∷ [])) ∷ Cancel (record { 0 = 7 }) ∷ []) ∷ []
the_plans = refl

-- the steps of its sink, what the sink takes behind them, and how many passes there are
the_steps : steps_of (script_lines drive_grammar script) ≡ Take 4 ∷ Fail 9 ∷ []
the_steps = refl

nothing_behind_them : most_after (script_lines drive_grammar script) ≡ 0
nothing_behind_them = refl

the_passes : most_passes (script_lines drive_grammar script) ≡ 5
the_passes = refl

-- a script of no bytes has no plan, a sink that takes all, and a million passes
no_plans : plans_of (script_lines drive_grammar []) ≡ []
no_plans = refl

all_is_taken : most_after (script_lines drive_grammar []) ≡ 18446744073709551615
all_is_taken = refl

a_million_passes : most_passes (script_lines drive_grammar []) ≡ 1000000
a_million_passes = refl

-- a second line with `then`, and a 65th writer
told_twice : script_fault drive_grammar (codes "then 7\nf 0\nthen 7")
    ≡ Some (3, Misplaced)
told_twice = refl

no_such_writer : script_fault drive_grammar (codes "f 63\nf 64") ≡ Some (2, OutOfRange)
no_such_writer = refl

-- marks that a writer sets, and a low mark above the high one
marks_of_a_writer : plans_of (script_lines drive_grammar (codes "m 0 5 5\nm 0 0 2147483647"))
    ≡ (SetMarks (record { low = 5; high = 5 }) ∷ SetMarks (record { low = 0; high = 2147483647 }) ∷ []) ∷ []
marks_of_a_writer = refl

a_low_mark_above_the_high_one : script_fault drive_grammar (codes "f 0\nm 0 5 4") ≡ Some (2, Misplaced)
a_low_mark_above_the_high_one = refl

-- two lines of a report
a_number : number_line (codes "writes") 100 ≡ codes "writes 100\n"
unfolding digits padded_integral char_count
a_number = refl

at_rest : hand_text (0, 0) ≡ codes "hand 0 00000000\n"
unfolding digits padded_integral char_count
at_rest = refl
