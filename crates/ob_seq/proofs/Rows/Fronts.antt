-- The front of the rows of a history, and what a command leaves behind rows that it lets stay.
use Rattle.ob_seq.proofs.Words.{◌≡◌, ◌<◌, Bool, false, List, [], ◌∷◌, ◌++◌, length, ltb, refl, sym, ◌∙◌, cond, arith}
use Rattle.ob_seq.proofs.Words.{Option, Some, None, is_some, nat_tests, length-map, change_between, Command, Reply, Row}
use Rattle.ob_seq.proofs.Words.{is_in_line, front, line, effect, rows_after, moments_along, is_close}
use Rattle.ob_seq.proofs.Words.{settlements_from, reply_of, entry_of, Pending, Leaves, true, length-append, front_id}
use Rattle.ob_seq.proofs.Words.{front_promise_after, position_or_len}
use Rattle.ob_seq.specs.Answer.{answer_of}
use Rattle.ob_seq.specs.State.{gives_notice}
use Rattle.ob_seq.proofs.Rows.History.{same_reply}
use Rattle.ob_seq.proofs.Rows.Along.{moments_past, settlements_past}
use Rattle.ob_seq.proofs.Inside.Held.{Held, front_id_is, held_of, line_count, opening, opening_with, left_by_parts}
use Rattle.ob_seq.proofs.Inside.Held.{word_at_end}
use Rattle.ob_seq.proofs.Word.{IsQuiet, past_after, word_from}
use Rattle.ob_seq.proofs.Rows.Order.{layout_of, index_of_parts}

-- the rows of a history
abbrev pub rows_of : Pending → List Command → List Row
rows_of buffer commands = rows_after buffer.settings.estimate commands

-- the rows of a history with their front
pub record Fronted (buffer : Pending) (commands : List Command) : Type 0 where
  pub gone : List Row
  pub row : Row
  pub standing : List Row
  pub fresh : List Row
  pub rows_are : rows_of buffer commands ≡ gone ++ row ∷ (standing ++ fresh)
  pub held : Held buffer gone (row ∷ standing) fresh

fronted_by : (buffer : Pending) (commands : List Command) (gone standing fresh : List Row) →
    rows_of buffer commands ≡ gone ++ (standing ++ fresh) → Held buffer gone standing fresh → 0 < length standing →
    Fronted buffer commands
fronted_by buffer commands gone [] fresh rows_are held some = absurd (omega arith)
fronted_by buffer commands gone (row ∷ standing) fresh rows_are held some =
    record { gone = gone; row = row; standing = standing; fresh = fresh; rows_are = rows_are; held = held }

-- with something in line there is a front
pub fronted : (buffer : Pending) (commands : List Command) → Leaves buffer commands → 0 < length buffer.line →
    Fronted buffer commands
fronted buffer commands leaves some =
    let layout = layout_of buffer.settings.estimate commands in
    let held = held_of buffer commands leaves in
    fronted_by buffer commands layout.gone layout.standing layout.fresh layout.is held
    (rw (line_count buffer layout.gone layout.standing layout.fresh held) at some)

-- and its promise is that behind the promises of the rows that are gone
pub front_promise_is : (buffer : Pending) (commands : List Command) (f : Fronted buffer commands) →
    front_promise_after buffer.settings commands ≡ Some (record { 0 = front_id buffer })
front_promise_is buffer commands f =
    let behind = f.standing ++ f.fresh in
    let index = index_of_parts f.gone f.row behind f.held.all_gone f.held.all_standing.0 in
    let within = length-append f.gone (f.row ∷ behind) in
    let some : ltb (length f.gone) (length (f.gone ++ f.row ∷ behind)) ≡ true = grind (arith, nat_tests) in
    rw (f.rows_are, index, some, front_id_is buffer f.gone (f.row ∷ f.standing) f.fresh f.held)

front_step : (here : Bool) (row : Row) (found : Option Row) (rest : List Row) → is_some found ≡ ltb 0 (length rest) →
    is_some (cond here (Some row) found) ≡ ltb 0 (length (cond here (row ∷ rest) rest))
front_step here row found rest is = grind (arith, nat_tests)

is_front : (rows : List Row) → is_some (front rows) ≡ ltb 0 (length (line rows))
is_front [] = refl
is_front (row ∷ rows) = front_step (is_in_line row) row (front rows) (line rows) (is_front rows)

-- there is a front exactly if something is in line
pub some_front : (buffer : Pending) (commands : List Command) → Leaves buffer commands →
    is_some (front (rows_of buffer commands)) ≡ ltb 0 (length buffer.line)
some_front buffer commands leaves =
    rw (leaves.line, length-map (line (rows_of buffer commands)) entry_of) (is_front (rows_of buffer commands))

-- with nothing in line there is none
pub no_front : (buffer : Pending) (commands : List Command) → Leaves buffer commands → length buffer.line ≡ 0 →
    front (rows_of buffer commands) ≡ None
no_front buffer commands leaves none =
    let fails = rw none at (some_front buffer commands leaves) in grind arith

-- rows without a front are all passed
none_in_line : (rows : List Row) → front rows ≡ None → position_or_len is_in_line rows ≡ length rows
none_in_line [] none = refl
none_in_line (row ∷ rows) none = let rest = none_in_line rows in grind arith

-- and so there is no promise of it
pub no_front_promise : (buffer : Pending) (commands : List Command) → Leaves buffer commands →
    length buffer.line ≡ 0 → front_promise_after buffer.settings commands ≡ None
no_front_promise buffer commands leaves none = grind (arith, none_in_line, no_front)

-- a buffer is what the commands with one more leave, and the reply is the one to it
abbrev pub Carries : Pending → List Command → Command → Pending → Reply → Type 0
Carries old commands command new reply =
    Leaves new (commands ++ command ∷ []) × (reply ≡ reply_of old.settings commands command)

-- a buffer carries a command out that holds the rows after it and has the word after its moments
pub carried : (old new : Pending) (commands : List Command) (command : Command) → Leaves old commands →
    old.closed ≡ false → (same was now : List Row) → rows_of old commands ≡ same ++ was →
    effect old.settings.estimate (rows_of old commands) command ≡ same ++ now →
    IsQuiet command →
    opening new ≡ opening_with command old → new.closed ≡ is_close command →
    (gone standing fresh : List Row) → same ++ now ≡ gone ++ (standing ++ fresh) → Held new gone standing fresh →
    new.word ≡ word_from old.marks (past_after old.settings commands)
    (moments_along (gives_notice command) same was now) →
    {reply : Reply} → reply.answer ≡ answer_of (rows_of old commands) command →
    reply.settled ≡ settlements_from (length same) was now → reply.change ≡ change_between old.word new.word →
    Carries old commands command new reply
carried old new commands command leaves unclosed same was now rows_are after_is quiet opened closed gone
    standing fresh parts held word answers settles changes =
    let notice = gives_notice command in
    let after = effect old.settings.estimate (rows_of old commands) command in
    let moments = moments_past (rows_of old commands) after same was now rows_are after_is notice in
    let settled = settlements_past (rows_of old commands) after same was now rows_are after_is in
    let end = word ∙ word_at_end old commands leaves command (moments_along notice same was now) quiet moments in (
      left_by_parts old new commands command leaves unclosed gone standing fresh opened closed held
          (after_is ∙ parts) end,
      same_reply answers (settles ∙ sym settled) (changes ∙ rw (end, leaves.word) refl),
    )
