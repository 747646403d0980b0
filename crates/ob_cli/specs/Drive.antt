-- The scripts of `drive`: what each writer is to do, what the sink takes, and how many passes the transport makes. The
-- table of their lines, and what is written of a drive.
use Rattle.std.specs.Fmt.{decimal}
use Rattle.std.specs.Io.KnownBytes.{Appends}
use Rattle.std.specs.List.{range_with_len}
use Rattle.std.specs.Prelude.{ℕ, ◌==◌, List, [], ◌∷◌, codes, suc, Bool, false, map, replicate, filter_map, flat_map}
use Rattle.std.specs.Prelude.{slice_get, Option, None, Some, is_some, unwrap_or, if◌then◌else◌, ◌++◌, ◌≡◌, ◌<◌, IfSome}
use Rattle.ob_types.specs.Marks.{water_mark_of}
use Rattle.ob_types.specs.declared.command.Command.{Command}
use Rattle.ob_types.specs.declared.command.Command.TheVariants as command
use Rattle.ob_types.specs.declared.message.Message.TheVariants as message
use Rattle.ob_seq.specs.Effect.{greatest}
use Rattle.ob_transport.specs.declared.script.SinkStep.{SinkStep}
use Rattle.ob_transport.specs.declared.script.SinkStep.TheVariants as step
use Rattle.ob_script.specs.Reading.{any_32, any_flag, any_index, any_64, any_block, any_mark, up_to, LineKind, Table, row, row_if, Grammar}
use Rattle.ob_script.specs.Reading.{line_reading}
use Rattle.ob_script.specs.Tracing.{eight_hex, number_line}
use Rattle.ob_script.specs.declared.reading.range.Range.{Range}
use Rattle.ob_traces.specs.Summary.{settlements_text}
use Rattle.ob_traces.specs.declared.summing.settlements.Settlements.{Settlements}
use Rattle.ob_pool.specs.Drive.{number_of, plans_fault}
use Rattle.ob_pool.specs.Report.{TellsOf}
use Rattle.ob_pool.specs.declared.fault.DriveFault.{DriveFault}
use Rattle.ob_pool.specs.declared.report.Report.{Report}
use Rattle.ob_cli.specs.Run.{marks_line, first_history}
use Rattle.ob_cli.specs.declared.cli.options.Options.{Options}
use Rattle.ob_cli.specs.declared.drive.line.DriveLine.{DriveLine}
use Rattle.ob_cli.specs.declared.drive.line.DriveLine.TheVariants as line
use Rattle.ob_cli.specs.declared.drive.line.WriterAction.{WriterAction}
use Rattle.ob_cli.specs.declared.drive.line.WriterAction.TheVariants as action
use Rattle.ob_cli.specs.declared.drive.line.WriterLine.{WriterLine}
use Rattle.ob_cli.specs.declared.drive.words.DriveWord.{DriveWord}
use Rattle.ob_cli.specs.declared.drive.words.DriveWord.TheVariants as word

-- the number of a writer
abbrev pub any_writer : Range
any_writer = up_to 63

-- the first words that there are
abbrev pub drive_words : List DriveWord
drive_words =
    word.Blocks ∷ word.Region ∷ word.Other ∷ word.Flush ∷ word.Cancel ∷ word.UserBit ∷ word.SetMarks ∷ word.Take ∷ word.Fail ∷ word.Then
    ∷ word.Turns ∷ []

-- a line of a writer, and a command of one
abbrev writer_line : ℕ → WriterAction → DriveLine
writer_line writer does = line.Writer (record { writer = writer; action = does })

abbrev command_line : ℕ → Command → DriveLine
command_line writer given = writer_line writer (action.Command given)

-- the kind of line that a word begins
abbrev pub drive_kind : DriveWord → LineKind DriveLine
drive_kind word.Blocks =
    row (codes "b") (any_writer ∷ any_block ∷ record { least = 1; greatest = 1024 } ∷ [])
    (λ number. writer_line (number 0) (action.Blocks (number 1) (number 2)))
drive_kind word.Region =
    row (codes "r") (any_writer ∷ any_64 ∷ [])
    (λ number. command_line (number 0) (command.Write (message.Region (number 1))))
drive_kind word.Other =
    row (codes "o") (any_writer ∷ any_32 ∷ [])
    (λ number. command_line (number 0) (command.Write (message.Other (number 1))))
drive_kind word.Flush = row (codes "f") (any_writer ∷ []) (λ number. command_line (number 0) command.Flush)
drive_kind word.Cancel =
    row (codes "x") (any_writer ∷ any_32 ∷ [])
    (λ number. command_line (number 0) (command.Cancel (record { 0 = number 1 })))
drive_kind word.UserBit =
    row (codes "u") (any_writer ∷ any_index ∷ any_flag ∷ [])
    (λ number. command_line (number 0) (command.UserBit (number 1) (number 2 == 1)))
drive_kind word.SetMarks =
    row_if (codes "m") (any_writer ∷ any_mark ∷ any_mark ∷ [])
    (λ number. marks_line (command_line (number 0)) (water_mark_of (number 1) (number 2)))
drive_kind word.Take = row (codes "take") (any_32 ∷ []) (λ number. line.Sink (step.Take (number 0)))
drive_kind word.Fail = row (codes "fail") (any_32 ∷ []) (λ number. line.Sink (step.Fail (number 0)))
drive_kind word.Then = row (codes "then") (any_32 ∷ []) (λ number. line.Then (number 0))
drive_kind word.Turns =
    row (codes "turns") (record { least = 1; greatest = 16777216 } ∷ []) (λ number. line.Turns (number 0))

-- the lines of `drive`
abbrev pub drive_table : Table DriveWord DriveLine
drive_table = record { words = drive_words; kind_of = drive_kind }

-- the write of a writer's block: *n* bytes, each of them the number of the writer
abbrev pub writer_block : ℕ → ℕ → Command
writer_block writer size = command.Write (message.Block (replicate size writer))

-- the commands that a writer is asked for
abbrev pub commands_of_action : ℕ → WriterAction → List Command
commands_of_action writer (action.Blocks size count) = replicate count (writer_block writer size)
commands_of_action writer (action.Command given) = given ∷ []

-- the commands that a line has for this writer: none if it is a line of another
abbrev pub commands_for : ℕ → WriterLine → List Command
commands_for writer own = if own.writer == writer then commands_of_action writer own.action else []

-- what a line is to a writer, if it is a line of one
abbrev pub writer_line_of : DriveLine → Option WriterLine
writer_line_of (line.Writer own) = Some own
writer_line_of (line.Sink step) = None
writer_line_of (line.Then most) = None
writer_line_of (line.Turns count) = None

-- the lines of the writers
abbrev pub writer_lines : List DriveLine → List WriterLine
writer_lines lines = filter_map writer_line_of lines

-- the plan of a writer: the commands that the lines have for it, in order
abbrev pub plan_of : List WriterLine → ℕ → List Command
plan_of lines writer = flat_map (commands_for writer) lines

-- how many writers there are: one more than the greatest, and none if no line is a writer's
abbrev pub writers_in : List WriterLine → ℕ
writers_in lines = greatest (map (λ own. suc own.writer) lines)

-- the plans of the writers, each at its number; that of a writer without lines is empty
abbrev pub plans_in : List WriterLine → List (List Command)
plans_in lines = map (plan_of lines) (range_with_len 0 (writers_in lines))

-- the plans of a script
abbrev pub plans_of : List DriveLine → List (List Command)
plans_of lines = plans_in (writer_lines lines)

-- the step of a sink's script that a line is, if it is one
abbrev pub step_of : DriveLine → Option SinkStep
step_of (line.Writer own) = None
step_of (line.Sink step) = Some step
step_of (line.Then most) = None
step_of (line.Turns count) = None

-- the steps of the sink
abbrev pub steps_of : List DriveLine → List SinkStep
steps_of lines = filter_map step_of lines

-- the number of a `then` line, and of a `turns` line
abbrev pub after_of : DriveLine → Option ℕ
after_of (line.Writer own) = None
after_of (line.Sink step) = None
after_of (line.Then most) = Some most
after_of (line.Turns count) = None

abbrev pub passes_of : DriveLine → Option ℕ
passes_of (line.Writer own) = None
passes_of (line.Sink step) = None
passes_of (line.Then most) = None
passes_of (line.Turns count) = Some count

-- the first number that lines tell, if any does
abbrev pub first_told : (DriveLine → Option ℕ) → List DriveLine → Option ℕ
first_told told lines = slice_get (filter_map told lines) 0

-- how much a call of the sink takes at most once its steps are used: all that can be offered if no line tells it
abbrev pub most_after : List DriveLine → ℕ
most_after lines = unwrap_or (first_told after_of lines) 18446744073709551615

-- how many passes the transport makes at most: a million if no line tells it
abbrev pub most_passes : List DriveLine → ℕ
most_passes lines = unwrap_or (first_told passes_of lines) 1000000

-- a line is misplaced: a second one with `then`, or a second one with `turns`
abbrev pub is_drive_misplaced : List DriveLine → DriveLine → Bool
is_drive_misplaced before (line.Writer own) = false
is_drive_misplaced before (line.Sink step) = false
is_drive_misplaced before (line.Then most) = is_some (first_told after_of before)
is_drive_misplaced before (line.Turns count) = is_some (first_told passes_of before)

-- the grammar of `drive`
abbrev pub drive_grammar : Grammar DriveLine
drive_grammar = record { reading = λ line. line_reading drive_table line; is_misplaced = is_drive_misplaced }

-- the lines of what the writers did
abbrev pub commands_text : Report → List ℕ
commands_text report =
    number_line (codes "writes") report.writes ++ number_line (codes "flushes") report.flushes
    ++ number_line (codes "cancels") report.cancels ++ number_line (codes "bits") report.bits
    ++ number_line (codes "refused") report.refused

-- how many promises are settled, by outcome
abbrev pub settled_in : Report → Settlements
settled_in report = record { success = report.success; failed = report.failed; cancelled = report.cancelled }

-- the lines of what became of the messages
abbrev pub messages_text : Report → List ℕ
messages_text report =
    number_line (codes "taken") report.taken ++ settlements_text (settled_in report)
    ++ number_line (codes "left") report.left

-- the line of the words of the hand-off: the total, and the word in eight hexadecimal digits
abbrev pub hand_text : (ℕ × ℕ) → List ℕ
hand_text hand = codes "hand " ++ decimal hand.0 ++ codes " " ++ eight_hex hand.1 ++ 10 ∷ []

-- the text of a report
abbrev pub report_text : Report → List ℕ
report_text report = commands_text report ++ messages_text report ++ hand_text report.hand

-- these plans have no fault with these options, and the text of a report that tells of a drive of them is written and
-- nothing else
abbrev pub WritesReport : Options → List (List Command) → Option (List ℕ) → Option (List ℕ) → Type 0
WritesReport options plans old new =
    (plans_fault options.estimate options.task plans ≡ None)
    × ((report : Report) × TellsOf (first_history options) plans report × Appends old new (report_text report))

-- a drive of these plans with these options comes to this fault: to the first that the plans have if they have one, and
-- else to one that no plans have
pub record ComesTo (options : Options) (plans : List (List Command)) (fault : DriveFault) : Type 0 where
  pub first : IfSome (plans_fault options.estimate options.task plans) (λ first. fault ≡ first)
  pub later : plans_fault options.estimate options.task plans ≡ None → 3 < number_of fault
