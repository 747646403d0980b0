-- What a line of a trace shows, by its words (docs/formats.md).
use Rattle.std.specs.Char.{is_ascii_digit}
use Rattle.std.specs.List.{list_all, starts_with, position_or_len}
use Rattle.std.specs.Option.{option_and_then}
use Rattle.std.specs.Prelude.{◌&&◌, ◌||◌, ◌==◌, ℕ, Bool, true, false, List, [], ◌∷◌, codes, drop, find, is_some, length}
use Rattle.std.specs.Prelude.{if◌then◌else◌, nat_eq, nat_le, Option, Some, None, count_by, nat_lt, ok_or, option_map}
use Rattle.std.specs.Prelude.{Result, Err, take}
use Rattle.std.specs.Result.{result_ok}
use Rattle.std.specs.Str.{bytes_eq}
use Rattle.ob_types.specs.declared.promise.Outcome.{Outcome}
use Rattle.ob_types.specs.declared.promise.Outcome.TheVariants.{Success, Failed, Cancelled}
use Rattle.ob_types.specs.declared.reply.Change.{Change}
use Rattle.ob_types.specs.declared.reply.Change.TheVariants.{Unwritable, Writable}
use Rattle.ob_script.specs.Reading.{any_32, any_64, number_in, Grammar, words_of, greatest_script}
use Rattle.ob_script.specs.declared.reading.fault.LineFault.{LineFault}
use Rattle.ob_script.specs.declared.reading.fault.LineFault.TheVariants.{OfNoTrace}
use Rattle.ob_script.specs.declared.reading.range.Range.{Range}
use Rattle.ob_traces.specs.declared.traces.line.Settled.{Settled}
use Rattle.ob_traces.specs.declared.traces.line.Told.{Told}
use Rattle.ob_traces.specs.declared.traces.line.Told.TheVariants as told
use Rattle.ob_traces.specs.declared.traces.line.TraceLine.{TraceLine}
use Rattle.ob_traces.specs.declared.traces.words.FirstOfTrace.{FirstOfTrace}
use Rattle.ob_traces.specs.declared.traces.words.FirstOfTrace.TheVariants as first

-- the first words that there are, unless they are labels
abbrev pub first_words : List FirstOfTrace
first_words =
    first.Id ∷ first.Count ∷ first.Yes ∷ first.No ∷ first.Done ∷ first.Gathered ∷ first.Added ∷ first.Subtracted
    ∷ first.Bit ∷ first.Word ∷ first.Total ∷ first.Nothing ∷ []

-- how a trace writes a first word
abbrev pub first_text : FirstOfTrace → List ℕ
first_text first.Id = codes "id"
first_text first.Count = codes "n"
first_text first.Yes = codes "yes"
first_text first.No = codes "no"
first_text first.Done = codes "ok"
first_text first.Gathered = codes "g"
first_text first.Added = codes "add"
first_text first.Subtracted = codes "sub"
first_text first.Bit = codes "bit"
first_text first.Word = codes "word"
first_text first.Total = codes "total"
first_text first.Nothing = codes "none"

-- the first word that a text writes, if it is one
abbrev pub word_of_first : List ℕ → Option FirstOfTrace
word_of_first text = find (λ word. bytes_eq (first_text word) text) first_words

-- the number that a text writes behind this label
abbrev pub labelled : List ℕ → Range → List ℕ → Option ℕ
labelled label range text =
    if starts_with nat_eq text label then result_ok (number_in range (drop (length label) text)) else None

-- the words behind one that writes a number behind this label
abbrev pub behind_label : List ℕ → List (List ℕ) → Option (List (List ℕ))
behind_label label [] = None
behind_label label (word ∷ words) = if is_some (labelled label any_64 word) then Some words else None

-- the words behind the lengths of blocks
abbrev pub behind_lengths : List (List ℕ) → List (List ℕ)
behind_lengths [] = []
behind_lengths (word ∷ words) = if is_some (labelled [] any_32 word) then behind_lengths words else word ∷ words

-- a hexadecimal digit, in lower case
abbrev pub is_hex : ℕ → Bool
is_hex byte = is_ascii_digit byte || (nat_le 97 byte && nat_le byte 102)

-- whether a buffer is writable by the word that a text writes in eight hexadecimal digits, if it writes one
abbrev pub is_writable_by : List ℕ → Option Bool
is_writable_by text =
    if bytes_eq text (codes "w=00000000") then Some true
    else (if starts_with nat_eq text (codes "w=") && (length text == 10) && list_all is_hex (drop 2 text) then Some false
    else None)

-- whether a line shows pending bytes and a word, by what it tells of
abbrev pub is_told_with_bytes : Told → Bool
is_told_with_bytes told.Accepted = true
is_told_with_bytes (told.Refused number) = true
is_told_with_bytes told.Look = true
is_told_with_bytes told.Bare = false

abbrev pub shows_bytes : TraceLine → Bool
shows_bytes line = is_told_with_bytes line.told

-- the outcome that a word settles a promise with: the promise's number, a colon and the outcome
abbrev pub outcome_told : List ℕ → Option Outcome
outcome_told text =
    if bytes_eq text (codes ":ok") then Some Success
    else (if bytes_eq text (codes ":x") then Some Cancelled
    else option_map (λ cause. Failed (record { 0 = cause })) (labelled (codes ":f") any_32 text))

abbrev pub outcome_of : List ℕ → Option Outcome
outcome_of word =
    let colon = position_or_len (λ byte. byte == 58) word in
    option_and_then (λ id. outcome_told (drop colon word)) (result_ok (number_in any_32 (take colon word)))

-- whether a promise is settled so
abbrev pub is_success : Option Outcome → Bool
is_success None = false
is_success (Some Success) = true
is_success (Some (Failed cause)) = false
is_success (Some Cancelled) = false

abbrev pub is_failed : Option Outcome → Bool
is_failed None = false
is_failed (Some Success) = false
is_failed (Some (Failed cause)) = true
is_failed (Some Cancelled) = false

abbrev pub is_cancelled : Option Outcome → Bool
is_cancelled None = false
is_cancelled (Some Success) = false
is_cancelled (Some (Failed cause)) = false
is_cancelled (Some Cancelled) = true

-- how many promises the words settle by outcome, where each word settles one
abbrev pub settled_in : List (List ℕ) → Option Settled
settled_in words =
    if list_all (λ word. is_some (outcome_of word)) words then Some (record {
      success = count_by (λ word. is_success (outcome_of word)) words;
      failed = count_by (λ word. is_failed (outcome_of word)) words;
      cancelled = count_by (λ word. is_cancelled (outcome_of word)) words;
    })
    else None

-- the change that a word tells, if it tells one
abbrev pub change_by : List ℕ → Option Change
change_by word =
    if bytes_eq word (codes "-") then Some Unwritable
    else (if bytes_eq word (codes "+") then Some Writable else None)

-- the change that the first of some words tells, if it tells one, and the words behind it
abbrev pub change_in : List (List ℕ) → Option Change
change_in [] = None
change_in (word ∷ words) = change_by word

abbrev pub behind_change : List (List ℕ) → List (List ℕ)
behind_change words = if is_some (change_in words) then drop 1 words else words

-- a line that tells of this and shows these bytes and this word, with the words behind them
abbrev pub levels_with : Told → Option ℕ → Option Bool → List (List ℕ) → Option TraceLine
levels_with told None is_writable words = None
levels_with told (Some total) None words = None
levels_with told (Some total) (Some is_writable) words =
    option_map (λ settled. record {
      told = told;
      total = total;
      is_writable = is_writable;
      change = change_in words;
      settled = settled;
    }) (settled_in (behind_change words))

-- a line that tells of this, by the words behind those that tell it: the pending bytes, the word, and then the change
-- and the settlements
abbrev pub levels_shown : Told → List (List ℕ) → Option TraceLine
levels_shown told [] = None
levels_shown told (total ∷ []) = None
levels_shown told (total ∷ word ∷ words) =
    levels_with told (labelled (codes "t=") any_32 total) (is_writable_by word) words

-- what a line tells of that begins with a first word, and the words behind those that tell it
abbrev pub told_by_word : Option FirstOfTrace → List (List ℕ) → Option (Told × List (List ℕ))
told_by_word None words = None
told_by_word (Some first.Id) words = option_map (λ rest. (told.Accepted, rest)) (behind_label [] words)
told_by_word (Some first.Count) words = option_map (λ rest. (told.Accepted, rest)) (behind_label [] words)
told_by_word (Some first.Yes) words = Some (told.Accepted, words)
told_by_word (Some first.No) words = Some (told.Accepted, words)
told_by_word (Some first.Done) words = Some (told.Accepted, words)
told_by_word (Some first.Gathered) words = Some (told.Look, behind_lengths words)
told_by_word (Some first.Added) words = Some (told.Accepted, words)
told_by_word (Some first.Subtracted) words = Some (told.Accepted, words)
told_by_word (Some first.Bit) words = Some (told.Accepted, words)
told_by_word (Some first.Word) words = Some (told.Accepted, words)
told_by_word (Some first.Total) words = Some (told.Accepted, words)
told_by_word (Some first.Nothing) words = Some (told.Accepted, words)

-- the numbers of the refusals that a trace shows
abbrev pub refusals : Range
refusals = record { least = 1; greatest = 11 }

-- the words behind the numbers of a look
abbrev pub behind_look : List (List ℕ) → Option (List (List ℕ))
behind_look words =
    option_and_then (behind_label (codes "bw="))
    (option_and_then (behind_label (codes "bu=")) (behind_label (codes "cur=") words))

-- what a line tells of, where its first word is no refusal, or this one
abbrev pub told_by_refusal : Option ℕ → List ℕ → List (List ℕ) → Option (Told × List (List ℕ))
told_by_refusal (Some number) first words = Some (told.Refused number, words)
told_by_refusal None first words =
    if is_some (labelled (codes "size=") any_64 first) then option_map (λ rest. (told.Look, rest)) (behind_look words)
    else told_by_word (word_of_first first) words

-- what a line tells of, by its first word and those behind it, and the words behind those that tell it
abbrev pub told_by : List ℕ → List (List ℕ) → Option (Told × List (List ℕ))
told_by first words = told_by_refusal (labelled (codes "!") refusals first) first words

-- a line tells of a lane, or of the end of the turns
abbrev pub is_bare_line : List ℕ → Bool
is_bare_line line =
    is_some (labelled (codes "lane ") any_32 line) || is_some (labelled (codes "end quiet owed=") any_32 line)

-- what such a line shows: no bytes, and no word
abbrev pub bare : TraceLine
bare = record {
  told = told.Bare;
  total = 0;
  is_writable = true;
  change = None;
  settled = record { success = 0; failed = 0; cancelled = 0 };
}

-- what a line of words shows
abbrev pub shown_by : List (List ℕ) → Option TraceLine
shown_by [] = None
shown_by (first ∷ words) = option_and_then (λ told. levels_shown told.0 told.1) (told_by first words)

-- what a line shows, if it is of a trace
abbrev pub line_shown : List ℕ → Option TraceLine
line_shown line = if is_bare_line line then Some bare else shown_by (words_of line)

-- what a line says, read as one of a script; none is longer than a script
abbrev pub trace_reading : List ℕ → Result TraceLine LineFault
trace_reading line = if nat_lt greatest_script (length line) then Err OfNoTrace else ok_or (line_shown line) OfNoTrace

-- the grammar of traces: no line is misplaced
abbrev pub trace_grammar : Grammar TraceLine
trace_grammar = record { reading = trace_reading; is_misplaced = λ before line. false }
