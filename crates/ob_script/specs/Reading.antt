-- What a script says (docs/formats.md): its lines and their words, the table of the lines that it may have, the numbers
-- of a line, what one line asks, and the lines up to the first faulty one, with that one's fault.
use Rattle.std.specs.Char.{is_ascii_digit}
use Rattle.std.specs.List.{slice_split, onto_first, list_all}
use Rattle.std.specs.Prelude.{◌==◌, ℕ, List, [], ◌∷◌, drop, if◌then◌else◌, Option, Some, find, ◌≡◌, ◌≤◌, ◌&&◌, zero}
use Rattle.std.specs.Prelude.{suc, Bool, not, length, nat_le, nat_lt, slice_index, ok_or, Result, Ok, Err, None, ◌++◌}
use Rattle.std.specs.Prelude.{map}
use Rattle.std.specs.Str.{bytes_eq}
use Rattle.std.specs.Str.Parse.{digits_value}
use Rattle.ob_script.specs.declared.reading.fault.LineFault.{LineFault}
use Rattle.ob_script.specs.declared.reading.fault.LineFault.TheVariants.{NotANumber, OutOfRange, TooFewWords}
use Rattle.ob_script.specs.declared.reading.fault.LineFault.TheVariants.{TooManyWords, Misplaced, UnknownWord, LongLine}
use Rattle.ob_script.specs.declared.reading.fault.LineFault.TheVariants.{OfNoTrace}
use Rattle.ob_script.specs.declared.reading.range.Range.{Range}

-- a script of no bytes has no line; the byte 10 ends a line, and any other byte goes onto the first line of what
-- follows
abbrev pub lines_of : List ℕ → List (List ℕ)
lines_of [] = []
lines_of (byte ∷ bytes) = if byte == 10 then [] ∷ lines_of bytes else onto_first byte (lines_of bytes)

-- a line is cut into words at each space
abbrev pub words_of : List ℕ → List (List ℕ)
words_of line = slice_split (λ byte. byte == 32) line

-- the words after the first space of a piece of a line
abbrev pub words_after : List ℕ → List (List ℕ)
words_after piece = drop 1 (words_of piece)

-- a kind of line: its first word as scripts write it, the ranges of the numbers that follow, and what such a line asks,
-- by the numbers at their places, if they fit one another
pub record LineKind (L : Type 0) : Type 0 where
  pub text : List ℕ
  pub ranges : List Range
  pub asked : (ℕ → ℕ) → Option L

-- the kind of line of these three, whose numbers always fit one another
abbrev pub row : {L : Type 0} → List ℕ → List Range → ((ℕ → ℕ) → L) → LineKind L
row text ranges asked = record { text = text; ranges = ranges; asked = λ number. Some (asked number) }

-- the kind of line of these three, whose numbers may not fit one another
abbrev pub row_if : {L : Type 0} → List ℕ → List Range → ((ℕ → ℕ) → Option L) → LineKind L
row_if text ranges asked = record { text = text; ranges = ranges; asked = asked }

-- the first words that there are, and the kind of line that each begins
pub record Table (W L : Type 0) : Type 0 where
  pub words : List W
  pub kind_of : W → LineKind L

-- the first word that a text writes, if it is one
abbrev pub word_named : {W L : Type 0} → Table W L → List ℕ → Option W
word_named table text = find (λ word. bytes_eq (table.kind_of word).text text) table.words

-- a number is one or more decimal digits, and zeros may lead
abbrev pub is_number : List ℕ → Bool
is_number word = not (length word == 0) && list_all is_ascii_digit word

-- a number of so few digits that each has 64 bits
abbrev pub is_short_number : List ℕ → Bool
is_short_number word = is_number word && nat_le (length word) 19

-- the numbers from 0 to this one
abbrev pub up_to : ℕ → Range
up_to greatest = record { least = 0; greatest = greatest }

-- any number of 32 bits, and of 64 bits
abbrev pub any_32 : Range
any_32 = up_to 4294967295

abbrev pub any_64 : Range
any_64 = up_to 18446744073709551615

-- the numbers that a mark may be
abbrev pub any_mark : Range
any_mark = up_to 2147483647

-- the bytes that a block of a script may have
abbrev pub any_block : Range
any_block = up_to 1048576

-- the numbers that the index of a bit may be, and the two of a flag
abbrev pub any_index : Range
any_index = up_to 255

abbrev pub any_flag : Range
any_flag = up_to 1

-- whether a range holds a number
abbrev pub holds : Range → ℕ → Bool
holds range number = nat_le range.least number && nat_le number range.greatest

-- the number that a word in a number's place is, or the fault of the word
abbrev pub number_in : Range → List ℕ → Result ℕ LineFault
number_in range word =
    if not (is_number word) then Err NotANumber
    else (if holds range (digits_value 10 word) then Ok (digits_value 10 word) else Err OutOfRange)

-- a number before those of the words that follow: the fault of the first comes first
abbrev pub before_numbers : Result ℕ LineFault → Result (List ℕ) LineFault → Result (List ℕ) LineFault
before_numbers (Err fault) rest = Err fault
before_numbers (Ok number) (Err fault) = Err fault
before_numbers (Ok number) (Ok numbers) = Ok (number ∷ numbers)

-- the numbers of words, each in its range, or the fault of the first faulty word
abbrev pub numbers_in : List Range → List (List ℕ) → Result (List ℕ) LineFault
numbers_in [] words = Ok []
numbers_in (range ∷ ranges) [] = Ok []
numbers_in (range ∷ ranges) (word ∷ words) = before_numbers (number_in range word) (numbers_in ranges words)

-- the numbers of the words that follow a first word: there are as many words as ranges
abbrev pub all_numbers_in : List Range → List (List ℕ) → Result (List ℕ) LineFault
all_numbers_in ranges words =
    if nat_lt (length words) (length ranges) then Err TooFewWords
    else (if nat_lt (length ranges) (length words) then Err TooManyWords
    else numbers_in ranges words)

-- what a line asks by the numbers at their places, unless these have a fault, or do not fit one another
abbrev pub asked_by : {L : Type 0} → ((ℕ → ℕ) → Option L) → Result (List ℕ) LineFault → Result L LineFault
asked_by asked (Ok numbers) = ok_or (asked (λ place. slice_index numbers place)) Misplaced
asked_by asked (Err fault) = Err fault

-- an array holds the numbers that were read, with zeros behind them, or the fault is the one that was found
abbrev pub HoldsNumbers : Result (List ℕ) LineFault → Result (List ℕ) LineFault → Type 0
HoldsNumbers (Ok array) (Ok numbers) = (k : ℕ) → slice_index array k ≡ slice_index numbers k
HoldsNumbers (Ok array) (Err fault) = ⊥
HoldsNumbers (Err found) (Ok numbers) = ⊥
HoldsNumbers (Err found) (Err fault) = found ≡ fault

-- the greatest number that may stand at a place, counted from 0: that of its range, and 0 behind all ranges
abbrev pub greatest_at : List Range → ℕ → ℕ
greatest_at [] place = 0
greatest_at (range ∷ ranges) zero = range.greatest
greatest_at (range ∷ ranges) (suc place) = greatest_at ranges place

-- no number is above its range, and behind all ranges stand zeros
abbrev pub AreWithin : List Range → List ℕ → Type 0
AreWithin ranges numbers = (place : ℕ) → slice_index numbers place ≤ greatest_at ranges place

-- what a line of a kind says, by the words that follow the first
abbrev pub kind_reading : {L : Type 0} → LineKind L → List (List ℕ) → Result L LineFault
kind_reading kind words = asked_by kind.asked (all_numbers_in kind.ranges words)

-- what a line says whose first word is this one, by the words that follow
abbrev pub with_word : {W L : Type 0} → Table W L → Option W → List (List ℕ) → Result L LineFault
with_word table None words = Err UnknownWord
with_word table (Some word) words = kind_reading (table.kind_of word) words

-- what the words of a line say; a line has at least one word
abbrev pub words_reading : {W L : Type 0} → Table W L → List (List ℕ) → Result L LineFault
words_reading table [] = Err UnknownWord
words_reading table (first ∷ words) = with_word table (word_named table first) words

-- what a line says: it has at most 200 bytes, not counting the byte that ends it
abbrev pub line_reading : {W L : Type 0} → Table W L → List ℕ → Result L LineFault
line_reading table line = if nat_lt 200 (length line) then Err LongLine else words_reading table (words_of line)

-- the number under which a fault is told
abbrev pub fault_number_of : LineFault → ℕ
fault_number_of UnknownWord = 1
fault_number_of NotANumber = 2
fault_number_of OutOfRange = 3
fault_number_of TooFewWords = 4
fault_number_of TooManyWords = 5
fault_number_of LongLine = 6
fault_number_of Misplaced = 7
fault_number_of OfNoTrace = 8

-- what a line says by itself, and whether a line behind these lines is misplaced
pub record Grammar (L : Type 0) : Type 0 where
  pub reading : List ℕ → Result L LineFault
  pub is_misplaced : List L → L → Bool

-- the greatest length of a script, in bytes
abbrev pub greatest_script : ℕ
greatest_script = 16777216

-- the lines before the first faulty one
abbrev pub before_fault : {L : Type 0} → List (Result L LineFault) → List L
before_fault [] = []
before_fault (Ok line ∷ readings) = line ∷ before_fault readings
before_fault (Err fault ∷ readings) = []

-- the first fault, with the number of its line, where the first of these lines has the number given
abbrev pub first_fault : {L : Type 0} → ℕ → List (Result L LineFault) → Option (ℕ × LineFault)
first_fault number [] = None
first_fault number (Ok line ∷ readings) = first_fault (suc number) readings
first_fault number (Err fault ∷ readings) = Some (number, fault)

-- what a line says behind these lines: one that is misplaced there has that fault
abbrev pub placed : {L : Type 0} → Grammar L → List L → L → Result L LineFault
placed grammar before line = if grammar.is_misplaced before line then Err Misplaced else Ok line

-- what each line says behind those before it; nothing is asked of the lines behind one that cannot be read
abbrev pub all_placed : {L : Type 0} → Grammar L → List L → List (Result L LineFault) → List (Result L LineFault)
all_placed grammar before [] = []
all_placed grammar before (Ok line ∷ readings) =
    placed grammar before line ∷ all_placed grammar (before ++ line ∷ []) readings
all_placed grammar before (Err fault ∷ readings) = Err fault ∷ []

-- what each line of a script says, if these lines stand before it
abbrev pub readings_behind : {L : Type 0} → Grammar L → List L → List ℕ → List (Result L LineFault)
readings_behind grammar before script = all_placed grammar before (map grammar.reading (lines_of script))

-- the lines of a script that are carried out: those before the first faulty one
abbrev pub script_lines : {L : Type 0} → Grammar L → List ℕ → List L
script_lines grammar script = before_fault (readings_behind grammar [] script)

-- the fault that ends a script, with the number of its line, from 1 on, if there is one
abbrev pub script_fault : {L : Type 0} → Grammar L → List ℕ → Option (ℕ × LineFault)
script_fault grammar script = first_fault 1 (readings_behind grammar [] script)
