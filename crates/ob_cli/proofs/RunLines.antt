-- Scripts of `run`: the bytes of their blocks, and what a session does with one command.
use Rattle.std.proofs.Common.{◌≡◌, ◌∙◌, ℕ, ◌+◌, ◌-◌, ◌%◌, ◌<◌, ◌≤◌, List, arith, drop, get_or, length, length-drop, sym}
use Rattle.std.proofs.Common.{take, ◌++◌, Bool, true, false, not, [], ◌∷◌, Result, refl, ap}
use Rattle.std.proofs.lemmas.List.{ext_get_or, get_or-drop, get_or-take, length-take-le}
use Rattle.std.proofs.lemmas.List.FromFn.{get_or-map-range_with_len, length-map-range_with_len}
use Rattle.std.specs.List.{slice_range}
use Rattle.ob_types.specs.declared.command.Command.{Command}
use Rattle.ob_types.specs.declared.refusal.Refusal.{Refusal}
use Rattle.ob_types.specs.declared.reply.Reply.{Reply}
use Rattle.ob_seq.specs.declared.look.Look.{Look}
use Rattle.ob_history.specs.History.{history_after, is_full, History, seen_now}
use Rattle.ob_history.specs.declared.record.Record.{Record}
use Rattle.ob_history.proofs.Calls.{answer_with_place, record_at_place}
use Rattle.ob_cli.specs.Run.{block_bytes, told_after, told_by, command_text, block_write, call_text, history_after_line}
use Rattle.ob_cli.specs.Run.{history_after_lines, line_trace}
use Rattle.ob_cli.specs.declared.run.line.RunLine.{RunLine}
use Rattle.ob_cli.specs.declared.run.line.RunLine.TheVariants.{Block}

-- a block has as many bytes as it is asked to have, and each counts on from the first
length-block_bytes : (first size : ℕ) → length (block_bytes first size) ≡ size
length-block_bytes first size = length-map-range_with_len (λ k. (first + k) % 256) 0 size

get_or-block_bytes : (first size i : ℕ) → i < size → get_or (block_bytes first size) i 0 ≡ (first + i) % 256
get_or-block_bytes first size i inside =
    get_or-map-range_with_len (λ k. (first + k) % 256) 0 size i i 0 inside (omega arith)

-- a part of the bytes that count up from 0 is the block that begins with its first one
pub part-block : (first size whole : ℕ) → first + size ≤ whole
    → slice_range (block_bytes 0 whole) first (first + size) ≡ block_bytes first size
part-block first size whole within =
    let rest : List ℕ = drop first (block_bytes 0 whole) in
    let count : ℕ = first + size - first in
    let some : count ≡ size = omega arith in
    let left = length-drop first (block_bytes 0 whole) in
    let enough : count ≤ length rest = omega (arith, left, length-block_bytes 0 whole) in
    let part : length (take count rest) ≡ size = length-take-le count rest enough ∙ some in
    let same : (i : ℕ) → i < length (take count rest) → get_or (take count rest) i 0 ≡ get_or (block_bytes first size) i 0
    = λ i inside.
    let within_whole : first + i < whole = omega arith in
    let within_own : i < size = omega arith in
    let zero_first : (0 + (first + i)) % 256 ≡ (first + i) % 256 = omega arith in
    get_or-take count rest i 0 (omega arith) ∙ get_or-drop first (block_bytes 0 whole) i 0
    ∙ get_or-block_bytes 0 whole (first + i) within_whole ∙ zero_first
    ∙ sym (get_or-block_bytes first size i within_own)
    in
    ext_get_or 0 (take count rest) (block_bytes first size) (part ∙ sym (length-block_bytes first size)) same

-- the history after one line more
pub history_after_lines-more : (history : History) (lines : List RunLine) (line : RunLine)
    → history_after_line (history_after_lines history lines) line ≡ history_after_lines history (lines ++ line ∷ [])
history_after_lines-more history [] line = refl
history_after_lines-more history (first ∷ lines) line =
    history_after_lines-more (history_after_line history first) lines line

-- the text of a block's write is the trace line of its line
pub block-told : (history : History) (size : ℕ) (command : Command) (line : RunLine) (old new : List ℕ)
    → command ≡ block_write history size
    → line ≡ Block size → new ≡ old ++ call_text history command → new ≡ old ++ line_trace history line
block-told history size command line old new made is told =
    told ∙ ap (λ c. old ++ call_text history c) made ∙ ap (λ l. old ++ line_trace history l) (sym is)

-- a history that took a command was not full
pub has_room : (taken full : Bool) → taken ≡ not full → taken ≡ true → full ≡ false
has_room taken true is so = sym so ∙ is
has_room taken false is so = refl

-- nor was one that would have refused it
pub never_full : (full : Bool) → (full ≡ true → ⊥) → full ≡ false
never_full true refused = absurd (refused refl)
never_full false refused = refl

-- what is told of a command that a history took is the reply in the record behind those before it
pub told-last : (history after : History) (command : Command) (records : List Record) (place : ℕ) (other : Record)
    (reply : Result Reply Refusal)
    → is_full history ≡ false → place ≡ length history.records → after ≡ history_after history 0 command
    → records ≡ after.records → (get_or records place other).reply ≡ reply → reply ≡ told_after history command
told-last history after command records place other reply room is_place is_after same found =
    sym found ∙ ap (λ (all : List Record). (get_or all place other).reply) same
    ∙ ap (λ (one : Record). one.reply) (record_at_place history after 0 command place other room is_place is_after).1
    ∙ sym (ap told_by (answer_with_place history 0 command room))

-- the text of what is told of a command and of the look behind it is the text of the command
pub call-told : (history : History) (command : Command) (reply : Result Reply Refusal) (look : Look) (old new : List ℕ)
    → reply ≡ told_after history command → look ≡ (seen_now (history_after history 0 command)).look
    → new ≡ old ++ command_text reply look → new ≡ old ++ call_text history command
call-told history command reply look old new told seen text =
    text ∙ ap (λ answer. old ++ command_text answer look) told
    ∙ ap (λ shown. old ++ command_text (told_after history command) shown) seen
