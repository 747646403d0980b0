-- The scripts of `core`: the lanes are the lane lines at the head, and the turns are the lines behind them. The table
-- of these lines, and the text of their traces.
use Rattle.std.specs.Fmt.{decimal}
use Rattle.std.specs.Prelude.{ℕ, ◌==◌, List, [], ◌∷◌, codes, ◌++◌, Option, ◌||◌, Bool, true, false, not, length}
use Rattle.std.specs.Prelude.{is_some, if◌then◌else◌}
use Rattle.ob_types.specs.Marks.{Marks}
use Rattle.ob_types.specs.declared.reply.Change.{Change}
use Rattle.ob_core.specs.World.{sum_owed, CoreState, new_core, start_fault}
use Rattle.ob_core.specs.Step.{number_of}
use Rattle.ob_core.specs.Turn.{core_after_all, event_of, core_after, change_of}
use Rattle.ob_core.specs.declared.ask.Ask.{Ask}
use Rattle.ob_core.specs.declared.ask.Ask.TheVariants as ask
use Rattle.ob_core.specs.declared.ask.Turn.{Turn}
use Rattle.ob_core.specs.declared.event.Event.{Event}
use Rattle.ob_core.specs.declared.event.Event.TheVariants.{Added, Subtracted, BitSet, BitCleared, ReadWord, ReadTotal}
use Rattle.ob_core.specs.declared.event.Event.TheVariants.{Nothing, Refused}
use Rattle.ob_core.specs.declared.lane_start.LaneStart.{LaneStart}
use Rattle.ob_script.specs.Reading.{any_32, any_flag, any_index, LineKind, Table, row, Grammar, line_reading}
use Rattle.ob_script.specs.Tracing.{change_text, words_text, Language, Texts}
use Rattle.ob_cli.specs.declared.turns.line.CoreLine.{CoreLine}
use Rattle.ob_cli.specs.declared.turns.line.CoreLine.TheVariants as line
use Rattle.ob_cli.specs.declared.turns.words.CoreWord.{CoreWord}
use Rattle.ob_cli.specs.declared.turns.words.CoreWord.TheVariants as word

-- the first words that there are
abbrev pub core_words : List CoreWord
core_words = word.Lane ∷ word.Charge ∷ word.Discharge ∷ word.Bit ∷ word.Word ∷ word.Total ∷ word.Go ∷ []

-- a turn of a lane
abbrev turn_line : ℕ → Ask → CoreLine
turn_line lane ask = line.Turn (record { lane = lane; ask = ask })

-- the kind of line that a word begins
abbrev pub core_kind : CoreWord → LineKind CoreLine
core_kind word.Lane =
    row (codes "lane") (any_32 ∷ any_32 ∷ []) (λ number. line.Lane (record { room = number 0; bits = number 1 }))
core_kind word.Charge =
    row (codes "c") (any_32 ∷ any_32 ∷ []) (λ number. turn_line (number 0) (ask.Charge (number 1)))
core_kind word.Discharge = row (codes "d") (any_32 ∷ []) (λ number. turn_line (number 0) ask.Discharge)
core_kind word.Bit =
    row (codes "u") (any_32 ∷ any_index ∷ any_flag ∷ [])
    (λ number. turn_line (number 0) (ask.Bit (number 1) (number 2 == 1)))
core_kind word.Word = row (codes "w") (any_32 ∷ []) (λ number. turn_line (number 0) ask.Word)
core_kind word.Total = row (codes "t") (any_32 ∷ []) (λ number. turn_line (number 0) ask.Total)
core_kind word.Go = row (codes "k") (any_32 ∷ []) (λ number. turn_line (number 0) ask.Go)

-- the lines of `core`
abbrev pub core_table : Table CoreWord CoreLine
core_table = record { words = core_words; kind_of = core_kind }

-- an event of a turn
abbrev pub event_text : Event → List ℕ
event_text Added = codes "add"
event_text Subtracted = codes "sub"
event_text BitSet = codes "bit"
event_text BitCleared = codes "bit"
event_text ReadWord = codes "word"
event_text ReadTotal = codes "total"
event_text Nothing = codes "none"
event_text (Refused fault) = codes "!" ++ decimal (number_of fault)

-- the line of a turn: its event, the total and the word after it, and the change
abbrev pub turn_text : Event → ℕ → ℕ → Option Change → List ℕ
turn_text event total word change = event_text event ++ words_text total word ++ change_text change ++ 10 ∷ []

-- the line of a lane: its number
abbrev pub lane_text : ℕ → List ℕ
lane_text number = codes "lane " ++ decimal number ++ 10 ∷ []

-- the last line: a core is always quiet, and the sum owed
abbrev pub end_text : ℕ → List ℕ
end_text owed = codes "end quiet owed=" ++ decimal owed ++ 10 ∷ []

-- the lanes of a script: its lane lines up to the first turn
abbrev pub lanes_of : List CoreLine → List LaneStart
lanes_of [] = []
lanes_of (line.Lane start ∷ lines) = start ∷ lanes_of lines
lanes_of (line.Turn turn ∷ lines) = []

-- the turns of a script
abbrev pub turns_of : List CoreLine → List Turn
turns_of [] = []
turns_of (line.Lane start ∷ lines) = turns_of lines
turns_of (line.Turn turn ∷ lines) = turn ∷ turns_of lines

-- whether there is anything in a list
abbrev pub has_any : {A : Type 0} → List A → Bool
has_any [] = false
has_any (x ∷ xs) = true

-- whether there is a lane, and whether there is a turn
abbrev pub has_lane : List CoreLine → Bool
has_lane lines = has_any (lanes_of lines)

abbrev pub has_turn : List CoreLine → Bool
has_turn lines = has_any (turns_of lines)

-- a line is misplaced: a lane behind a turn, a lane with which those before it make no world, or a turn before any lane
abbrev pub is_core_misplaced : List CoreLine → CoreLine → Bool
is_core_misplaced before (line.Lane start) = has_turn before || is_some (start_fault (lanes_of before ++ start ∷ []))
is_core_misplaced before (line.Turn turn) = not (has_lane before)

-- the core after the turns of these lines, which begins with their lanes
abbrev pub core_behind : Marks → List CoreLine → CoreState
core_behind marks lines = core_after_all (new_core marks (lanes_of lines)) (turns_of lines)

-- the trace line of a turn of a core: its event, the total and the word after it, and its change
abbrev pub turn_trace : CoreState → Turn → List ℕ
turn_trace core turn =
    let after = core_after core turn in turn_text (event_of core turn) after.total after.word (change_of core turn)

-- the trace line of a line: the number of a lane, or the turn of the core behind the lines before it
abbrev pub core_line_text : Marks → List CoreLine → CoreLine → List ℕ
core_line_text marks before (line.Lane start) = lane_text (length (lanes_of before))
core_line_text marks before (line.Turn turn) = turn_trace (core_behind marks before) turn

-- the last line of a trace, none if there is no lane
abbrev pub core_last_text : Marks → List CoreLine → List ℕ
core_last_text marks lines =
    let core = core_behind marks lines in if has_lane lines then end_text (sum_owed core.lanes) else []

-- the grammar of `core`
abbrev pub core_grammar : Grammar CoreLine
core_grammar = record { reading = λ line. line_reading core_table line; is_misplaced = is_core_misplaced }

-- what `core` tells of the lines, with these marks
abbrev pub core_texts : Marks → Texts CoreLine
core_texts marks = record { line_text = core_line_text marks; last_text = core_last_text marks }

-- the language of `core` with these marks
abbrev pub core_language : Marks → Language CoreLine
core_language marks = record { grammar = core_grammar; texts = core_texts marks }
