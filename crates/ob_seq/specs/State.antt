-- What a buffer shows of its state. The mark: set exactly if the last moment that decided it was a rise, and a moment
-- goes by the marks in force. The word, of the mark and the user bits (Netty's `setUserDefinedWritability`): writable
-- means that it is 0. Whether the buffer is closed or empty, and the writes left.
use Rattle.std.specs.List.{range_with_len, list_any}
use Rattle.std.specs.Prelude.{List, Option, filter_map, reverse, slice_get, unwrap_or, ℕ, Bool, [], ◌∷◌, ◌++◌, nat_lt}
use Rattle.std.specs.Prelude.{if◌then◌else◌, true, false, filter, Some, None, ◌==◌, ◌&&◌, nat_le, ◌+◌, ◌^◌, sum_by}
use Rattle.std.specs.Prelude.{count_by, ◌-◌, not, length}
use Rattle.ob_types.specs.Limits.{most_writes}
use Rattle.ob_types.specs.Marks.{Marks, is_writable}
use Rattle.ob_types.specs.Traits.{traits_of, BitRequest, is_write}
use Rattle.ob_types.specs.declared.command.Command.{Command}
use Rattle.ob_types.specs.declared.estimate.Estimate.{Estimate}
use Rattle.ob_seq.specs.Effect.{effect, rows_after}
use Rattle.ob_seq.specs.Rows.{Settings, Row, counted_size, total, line}

-- the marks that a command sets, if it sets any
abbrev pub marks_set_by : Command → Option Marks
marks_set_by command = (traits_of command).marks

-- the marks in force after a history of accepted commands: those that were set last, and those of the opening if none
-- were
abbrev pub marks_after : Settings → List Command → Marks
marks_after settings commands = unwrap_or (slice_get (reverse (filter_map marks_set_by commands)) 0) settings.marks

-- a rise, a fall that writers are told of, or one that they are not told of, each with the pending bytes right after it
pub data Moment : Type 0 where
  Rise : ℕ → Moment
  NoticedFall : ℕ → Moment
  SilentFall : ℕ → Moment

-- a fall, with or without notice
abbrev pub fall : Bool → ℕ → Moment
fall notice sum = if notice then NoticedFall sum else SilentFall sum

-- the moment when one row's count goes from before to after and the pending bytes are then sum: none if it stays
abbrev pub moment_of : Bool → ℕ → ℕ → ℕ → List Moment
moment_of notice before after sum =
    if nat_lt before after then Rise sum ∷ [] else (if nat_lt after before then fall notice sum ∷ [] else [])

-- the moments when rows change one after another, from the first on: those passed stand as they are after, and
-- those still to come as they were before
abbrev pub moments_along : Bool → List Row → List Row → List Row → List Moment
moments_along notice passed before [] = []
moments_along notice passed [] (row ∷ after) =
    moment_of notice 0 (counted_size row) (total (passed ++ row ∷ []))
    ++ moments_along notice (passed ++ row ∷ []) [] after
moments_along notice passed (was ∷ before) (row ∷ after) =
    moment_of notice (counted_size was) (counted_size row) (total (passed ++ row ∷ before))
    ++ moments_along notice (passed ++ row ∷ []) before after

-- whether the falls of a command are with notice: a failing of the flushed messages says so itself, and a close never
-- gives any
abbrev pub gives_notice : Command → Bool
gives_notice command = (traits_of command).notice

-- the moments of one more accepted command, in the order of the rows
abbrev pub moments_of : Estimate → List Row → Command → List Moment
moments_of estimate rows command = moments_along (gives_notice command) [] rows (effect estimate rows command)

-- whether a moment decides the mark: a rise to a total above high, or a noticed fall to one below low; a total equal to
-- a mark decides nothing
abbrev pub decides : Marks → Moment → Bool
decides marks (Rise sum) = nat_lt marks.high sum
decides marks (NoticedFall sum) = nat_lt sum marks.low
decides marks (SilentFall sum) = false

-- the deciding moments of commands that are accepted one after another once a history has left these rows, oldest
-- first, each by the marks in force at its command
abbrev pub deciding_from : Settings → List Command → List Row → List Command → List Moment
deciding_from settings earlier rows [] = []
deciding_from settings earlier rows (command ∷ commands) =
    filter (decides (marks_after settings earlier)) (moments_of settings.estimate rows command)
    ++ deciding_from settings (earlier ++ command ∷ []) (effect settings.estimate rows command) commands

-- the last moment of a history that decided the mark, if one did
abbrev pub last_deciding : Settings → List Command → Option Moment
last_deciding settings commands = slice_get (reverse (deciding_from settings [] [] commands)) 0

-- whether a moment is a rise
abbrev pub is_rise : Moment → Bool
is_rise (Rise sum) = true
is_rise (NoticedFall sum) = false
is_rise (SilentFall sum) = false

-- the mark is set if the last deciding moment is a rise, and clear if there is none
abbrev pub is_set_by : Option Moment → Bool
is_set_by None = false
is_set_by (Some moment) = is_rise moment

-- the mark after a history of accepted commands
abbrev pub mark_after : Settings → List Command → Bool
mark_after settings commands = is_set_by (last_deciding settings commands)

-- what a request asks of the user bit with this index: nothing if there is none, or it is of another bit
abbrev pub asked_of : ℕ → Option BitRequest → Option Bool
asked_of index None = None
asked_of index (Some request) = if request.index == index then Some request.set else None

-- what a command asks of the user bit with this index: to be set, to be clear, or nothing
abbrev pub bit_request : ℕ → Command → Option Bool
bit_request index command = asked_of index (traits_of command).bit

-- whether a user bit has this index
abbrev pub is_user_index : ℕ → Bool
is_user_index index = nat_le 1 index && nat_le index 31

-- a user bit is as the last command that asked something of it left it, and clear if none did
abbrev pub user_bit : List Command → ℕ → Bool
user_bit commands index = unwrap_or (slice_get (reverse (filter_map (bit_request index) commands)) 0) false

-- a bit as a number
abbrev pub bit_value : ℕ → Bool → ℕ
bit_value index bit = if bit then 2 ^ index else 0

-- bits 1 to 31 of the word: the user bits
unfoldable pub user_bits : (ℕ → Bool) → ℕ
user_bits bit = sum_by (λ index. bit_value index (bit index)) (range_with_len 1 31)

-- the word after a history of accepted commands: bit 0 is the mark, and bit i the user bit i
abbrev pub word_after : Settings → List Command → ℕ
word_after settings commands = bit_value 0 (mark_after settings commands) + user_bits (user_bit commands)

-- whether a command is a close
abbrev pub is_close : Command → Bool
is_close command = (traits_of command).close

-- a buffer is closed once a close was accepted
abbrev pub is_closed : List Command → Bool
is_closed commands = list_any is_close commands

-- how many of these commands are writes
abbrev pub writes_in : List Command → ℕ
writes_in commands = count_by is_write commands

-- whether the buffer is writable after a history (Netty's `isWritable`)
abbrev pub writable_after : Settings → List Command → Bool
writable_after settings commands = is_writable (word_after settings commands)

-- whether nothing stands in line after a history (Netty's `isEmpty`)
abbrev pub empty_after : Settings → List Command → Bool
empty_after settings commands = length (line (rows_after settings.estimate commands)) == 0

-- whether a close was accepted in a history
abbrev pub closed_after : Settings → List Command → Bool
closed_after settings commands = is_closed commands

-- whether no user bit of this index is set after a history (Netty's `getUserDefinedWritability`): of an index at which
-- there is no user bit none is
abbrev pub user_writable_after : ℕ → Settings → List Command → Bool
user_writable_after index settings commands = not (is_user_index index && user_bit commands index)

-- how many more writes can be accepted after a history: none once it has a close
abbrev pub writes_left_after : Settings → List Command → ℕ
writes_left_after settings commands =
    if is_closed commands then 0 else most_writes - length (rows_after settings.estimate commands)
