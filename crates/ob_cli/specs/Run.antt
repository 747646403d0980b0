-- The scripts of `run`: commands to one buffer, whose calls are recorded, and the history that a run begins with. The
-- table of their lines, and the text of their traces. The script's caller is 0.
use Rattle.std.specs.Fmt.{decimal}
use Rattle.std.specs.List.{flat_map, range_with_len}
use Rattle.std.specs.Prelude.{◌==◌, List, [], ◌∷◌, codes, Option, option_map, Result, ℕ, true, false, ◌++◌, length, Ok}
use Rattle.std.specs.Prelude.{Err, ◌+◌, ◌%◌, map, fold}
use Rattle.std.specs.Result.{result_ok}
use Rattle.ob_types.specs.Marks.{Marks, water_mark_of}
use Rattle.ob_types.specs.Replies.{number_of}
use Rattle.ob_types.specs.declared.command.Command.{Command}
use Rattle.ob_types.specs.declared.command.Command.TheVariants as command
use Rattle.ob_types.specs.declared.message.Message.TheVariants as message
use Rattle.ob_types.specs.declared.promise.Outcome.{Outcome}
use Rattle.ob_types.specs.declared.promise.Outcome.TheVariants.{Success, Failed, Cancelled}
use Rattle.ob_types.specs.declared.promise.PromiseId.{PromiseId}
use Rattle.ob_types.specs.declared.refusal.Refusal.{Refusal}
use Rattle.ob_types.specs.declared.reply.Answer.{Answer}
use Rattle.ob_types.specs.declared.reply.Answer.TheVariants.{Id, Count, Yes, Done}
use Rattle.ob_types.specs.declared.reply.Reply.{Reply}
use Rattle.ob_seq.specs.Looks.{gathered_after}
use Rattle.ob_seq.specs.State.{writes_in}
use Rattle.ob_seq.specs.declared.look.Look.{Look}
use Rattle.ob_history.specs.History.{call_answer, history_after, History, new_history, accepted_commands, seen_now}
use Rattle.ob_history.specs.declared.receipt.Receipt.{Receipt}
use Rattle.ob_script.specs.Reading.{any_32, any_flag, any_index, any_64, any_block, any_mark, LineKind, Table, row, row_if, Grammar}
use Rattle.ob_script.specs.Reading.{line_reading}
use Rattle.ob_script.specs.Tracing.{change_text, words_text, Language, Texts}
use Rattle.ob_cli.specs.declared.cli.options.Options.{Options}
use Rattle.ob_cli.specs.declared.run.line.RunLine.{RunLine}
use Rattle.ob_cli.specs.declared.run.line.RunLine.TheVariants as line
use Rattle.ob_cli.specs.declared.run.words.RunWord.{RunWord}
use Rattle.ob_cli.specs.declared.run.words.RunWord.TheVariants as word

-- the history of a run before its first line: its buffer has the options' marks and sizes, and it may hold as many
-- records as their limit
abbrev pub first_history : Options → History
first_history options = new_history (record { marks = options.marks; estimate = options.estimate }) options.limit

-- a line that sets marks, if two numbers are marks
abbrev pub marks_line : {L : Type 0} → (Command → L) → Result Marks Refusal → Option L
marks_line given marks = option_map (λ made. given (command.SetMarks made)) (result_ok marks)

-- the first words that there are
abbrev pub run_words : List RunWord
run_words =
    word.Block ∷ word.Region ∷ word.Other ∷ word.Flush ∷ word.Remove ∷ word.RemoveWith ∷ word.RemoveBytes ∷
    word.Progress
    ∷ word.Cancel ∷ word.FailFlushed ∷ word.Close ∷ word.UserBit ∷ word.SetMarks ∷ word.Look ∷ word.Gather ∷ []

-- the kind of line that a word begins
abbrev pub run_kind : RunWord → LineKind RunLine
run_kind word.Block = row (codes "b") (any_block ∷ []) (λ number. line.Block (number 0))
run_kind word.Region =
    row (codes "r") (any_64 ∷ []) (λ number. line.Command (command.Write (message.Region (number 0))))
run_kind word.Other =
    row (codes "o") (any_32 ∷ []) (λ number. line.Command (command.Write (message.Other (number 0))))
run_kind word.Flush = row (codes "f") [] (λ number. line.Command command.Flush)
run_kind word.Remove = row (codes "rm") [] (λ number. line.Command command.Remove)
run_kind word.RemoveWith =
    row (codes "rc") (any_32 ∷ []) (λ number. line.Command (command.RemoveWith (record { 0 = number 0 })))
run_kind word.RemoveBytes =
    row (codes "rb") (any_64 ∷ []) (λ number. line.Command (command.RemoveBytes (number 0)))
run_kind word.Progress = row (codes "p") (any_64 ∷ []) (λ number. line.Command (command.Progress (number 0)))
run_kind word.Cancel =
    row (codes "x") (any_32 ∷ []) (λ number. line.Command (command.Cancel (record { 0 = number 0 })))
run_kind word.FailFlushed =
    row (codes "fl") (any_32 ∷ any_flag ∷ [])
    (λ number. line.Command (command.FailFlushed (record { 0 = number 0 }) (number 1 == 1)))
run_kind word.Close =
    row (codes "cl") (any_32 ∷ []) (λ number. line.Command (command.Close (record { 0 = number 0 })))
run_kind word.UserBit =
    row (codes "u") (any_index ∷ any_flag ∷ []) (λ number. line.Command (command.UserBit (number 0) (number 1 == 1)))
run_kind word.SetMarks =
    row_if (codes "m") (any_mark ∷ any_mark ∷ []) (λ number. marks_line line.Command (water_mark_of (number 0) (number 1)))
run_kind word.Look = row (codes "?") [] (λ number. line.Look)
run_kind word.Gather =
    row (codes "g") (record { least = 1; greatest = 1024 } ∷ record { least = 1; greatest = 2147483647 } ∷ [])
    (λ number. line.Gather (number 0) (number 1))

-- the lines of `run`
abbrev pub run_table : Table RunWord RunLine
run_table = record { words = run_words; kind_of = run_kind }

-- the pending bytes and the word of a look
abbrev pub levels_text : Look → List ℕ
levels_text look = words_text look.total look.word

-- an answer
abbrev pub answer_text : Answer → List ℕ
answer_text (Id id) = codes "id " ++ decimal id.0
answer_text (Count count) = codes "n " ++ decimal count
answer_text (Yes true) = codes "yes"
answer_text (Yes false) = codes "no"
answer_text Done = codes "ok"

-- an outcome of a promise
abbrev pub outcome_text : Outcome → List ℕ
outcome_text Success = codes "ok"
outcome_text (Failed cause) = codes "f" ++ decimal cause.0
outcome_text Cancelled = codes "x"

-- a settlement: the promise and its outcome
abbrev pub settlement_text : (PromiseId × Outcome) → List ℕ
settlement_text settlement = codes " " ++ decimal settlement.0.0 ++ codes ":" ++ outcome_text settlement.1

-- the line of a command: its answer or the number of its refusal, the look after it, and then the change and the
-- settlements
abbrev pub command_text : Result Reply Refusal → Look → List ℕ
command_text (Ok reply) look =
    answer_text reply.answer ++ levels_text look ++ change_text reply.change ++ flat_map settlement_text reply.settled
    ++ 10 ∷ []
command_text (Err refusal) look = codes "!" ++ decimal (number_of refusal) ++ levels_text look ++ 10 ∷ []

-- the line of a look
abbrev pub look_text : Look → List ℕ
look_text look =
    codes "size=" ++ decimal look.size ++ codes " cur=" ++ decimal look.current_progress ++
    codes " bu=" ++ decimal look.before_unwritable ++ codes " bw=" ++ decimal look.before_writable ++ levels_text look
    ++ 10 ∷ []

-- the length of one gathered block
abbrev pub length_text : List ℕ → List ℕ
length_text block = codes " " ++ decimal (length block)

-- the line of a gathering: the length of each block, and the look
abbrev pub gathered_text : List (List ℕ) → Look → List ℕ
gathered_text blocks look = codes "g" ++ flat_map length_text blocks ++ levels_text look ++ 10 ∷ []

-- what the answer of a call tells of its command: the reply in the receipt, or the refusal of the call
abbrev pub told_by : Result Receipt Refusal → Result Reply Refusal
told_by (Ok receipt) = receipt.reply
told_by (Err refusal) = Err refusal

-- what is told of one more command
abbrev pub told_after : History → Command → Result Reply Refusal
told_after history command = told_by (call_answer history 0 command)

-- the bytes of a script's block: byte k is (a + k) mod 256, if a writes were accepted before it
abbrev pub block_bytes : ℕ → ℕ → List ℕ
block_bytes accepted size = map (λ k. (accepted + k) % 256) (range_with_len 0 size)

-- the write of a script's block of this size after a history
abbrev pub block_write : History → ℕ → Command
block_write history size =
    command.Write (message.Block (block_bytes (writes_in (accepted_commands history.records)) size))

-- the history after a script line: a block and a command leave a record
abbrev pub history_after_line : History → RunLine → History
history_after_line history (line.Block size) = history_after history 0 (block_write history size)
history_after_line history (line.Command command) = history_after history 0 command
history_after_line history line.Look = history
history_after_line history (line.Gather max_count max_bytes) = history

-- the text of a command to the buffer of a history
abbrev pub call_text : History → Command → List ℕ
call_text history command = command_text (told_after history command) (seen_now (history_after history 0 command)).look

-- the trace line of a script line after a history
abbrev pub line_trace : History → RunLine → List ℕ
line_trace history (line.Block size) = call_text history (block_write history size)
line_trace history (line.Command command) = call_text history command
line_trace history line.Look = look_text (seen_now history).look
line_trace history (line.Gather max_count max_bytes) =
    gathered_text (gathered_after history.settings (accepted_commands history.records) max_count max_bytes)
    (seen_now history).look

-- the history after script lines
abbrev pub history_after_lines : History → List RunLine → History
history_after_lines history lines = fold history_after_line history lines

-- the grammar of `run`: no line is misplaced
abbrev pub run_grammar : Grammar RunLine
run_grammar = record { reading = λ line. line_reading run_table line; is_misplaced = λ before line. false }

-- what `run` tells of the lines, on the buffer of a history: nothing comes behind them
abbrev pub run_texts : History → Texts RunLine
run_texts history = record {
  line_text = λ before line. line_trace (history_after_lines history before) line;
  last_text = λ lines. [];
}

-- the language of `run` on the buffer of a history
abbrev pub run_language : History → Language RunLine
run_language history = record { grammar = run_grammar; texts = run_texts history }
