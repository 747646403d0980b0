-- A front that is cut: its rest is what is gathered, and what is next is so.
use Rattle.std.proofs.Common.{◌≡◌, refl, sym, ap, ◌∙◌, arith, ℕ, List, [], ◌∷◌, length, append-nil, true, false, Bool}
use Rattle.std.proofs.Common.{cond, inl, inr, subst, zero, suc}
use Rattle.std.proofs.lemmas.Bool.Decides.{nat_tests}
use Rattle.std.specs.Prelude.{IfNone, IfSome, Result, Ok, Err}
use Rattle.std.specs.declared.io.Error.{Error}
use Rattle.std.specs.Prelude.{◌==◌, ◌&&◌, Option, Some, None, slice_get, option_map, map, min, max, take, nat_lt}
use Rattle.std.specs.List.{concat}
use Rattle.std.proofs.lemmas.List.Sums.{take_while-cons}
use Rattle.ob_types.specs.Traits.{is_block}
use Rattle.ob_types.specs.declared.command.Command.{Command}
use Rattle.ob_types.specs.declared.message.Message.{Message}
use Rattle.ob_types.specs.declared.message.Message.TheVariants.{Block, Region, Other}
use Rattle.ob_seq.specs.Effect.{block_bytes, blocks_in_front, bytes_in, rows_after}
use Rattle.ob_seq.specs.Looks.{current_after, first_blocks, gathered_after, look_after, with_bytes}
use Rattle.ob_seq.specs.Rows.{Row, Settings, front, is_in_line, line, unread_part}
use Rattle.ob_seq.specs.State.{empty_after}
use Rattle.ob_connection.specs.Connected.{Connected, Gives}
use Rattle.ob_connection.specs.Calls.{Call, with_more}
use Rattle.ob_connection.specs.Sending.{Asks, Sends, bytes_in_front_after}
use Rattle.ob_connection.specs.declared.connection.sending.SendFault.{SendFault}
use Rattle.ob_connection.specs.declared.connection.sending.Sent.{Sent}
use Rattle.ob_connection.specs.declared.connection.sending.SendFault.TheVariants.{Broken as IsBroken}
use Rattle.ob_patterns.specs.Sending.{IsGivenUp, broken, most_bytes, Says}
use Rattle.ob_patterns.specs.Urgent.{EndsCut, LeavesAtFault, LeavesCut, SaysOfBoth, SendsRest, cut_after, is_left}
use Rattle.ob_patterns.specs.Urgent.{next_after_fault, next_by, next_of_cut, rest_after, rest_of}
use Rattle.ob_patterns.specs.declared.next.Next.{Next}
use Rattle.ob_patterns.specs.declared.next.Next.TheVariants.{Rest, WaitForRoom, ComeAgain, SendFront, Closed, Broken}

front_step : (here : Bool) (row : Row) (found : Option Row) (rest : List Row) → found ≡ slice_get rest 0 →
    cond here (Some row) found ≡ slice_get (cond here (row ∷ rest) rest) 0
front_step true row found rest is = refl
front_step false row found rest is = is

-- the front is the first in line
front_is_first : (rows : List Row) → front rows ≡ slice_get (line rows) 0
front_is_first [] = refl
front_is_first (row ∷ rows) = front_step (is_in_line row) row (front rows) (line rows) (front_is_first rows)

-- what is left of the first of these rows
abbrev first_left : List Row → Option Message
first_left rows = option_map unread_part (slice_get rows 0)

current_is_first : (settings : Settings) (commands : List Command) →
    current_after settings commands ≡ first_left (line (rows_after settings.estimate commands))
current_is_first settings commands =
    ap (option_map unread_part) (front_is_first (rows_after settings.estimate commands))

both_true : (first second : Bool) → (first && second) ≡ true → second ≡ true
both_true true second is = is
both_true false second is = absurd (cc)

-- something is left of a front that is cut
left_if_cut : (settings : Settings) (commands : List Command) → true ≡ cut_after settings commands →
    is_left (first_left (line (rows_after settings.estimate commands))) ≡ true
left_if_cut settings commands cut =
    ap is_left (sym (current_is_first settings commands))
    ∙ both_true (nat_lt 0 (look_after settings commands).current_progress) (is_left (current_after settings commands))
    (sym cut)

one_of : (k : ℕ) → min 1 (max 1 k) ≡ 1
one_of k = omega arith

first_alone : (k : ℕ) (block : List ℕ) (blocks : List (List ℕ)) →
    concat (take (min 1 (max 1 k)) (block ∷ blocks)) ≡ block
first_alone k block blocks = rw (one_of k) (append-nil block)

none_taken : (k : ℕ) → concat (take {A = List ℕ} k []) ≡ []
none_taken zero = refl
none_taken (suc k) = refl

kept_block : (block : List ℕ) (blocks : List (List ℕ)) → nat_lt 0 (length block) ≡ true →
    with_bytes (block ∷ blocks) ≡ block ∷ with_bytes blocks
kept_block block blocks some = ap (λ here. cond here (block ∷ with_bytes blocks) (with_bytes blocks)) some

-- at most one block is gathered: what is left of the first message, if that is a block with a byte
gathered_first : (most : ℕ) (message : Message) (messages : List Message) → is_left (Some message) ≡ true →
    concat (first_blocks 1 most (with_bytes (blocks_in_front (message ∷ messages)))) ≡ block_bytes message
gathered_first most (Block bytes) messages left =
    rw (take_while-cons is_block (Block bytes) messages, kept_block bytes (blocks_in_front messages) left)
    (first_alone _ bytes (with_bytes (blocks_in_front messages)))
gathered_first most (Region units) messages left = none_taken _
gathered_first most (Other value) messages left = none_taken _

gathered_left : (most : ℕ) (rows : List Row) → is_left (first_left rows) ≡ true →
    concat (first_blocks 1 most (with_bytes (blocks_in_front (map unread_part rows)))) ≡ rest_of (first_left rows)
gathered_left most [] left = absurd (cc)
gathered_left most (row ∷ rows) left = gathered_first most (unread_part row) (map unread_part rows) left

-- of a front that is cut the rest alone is gathered
pub gathers_rest : (settings : Settings) (commands : List Command) (most : ℕ) → true ≡ cut_after settings commands →
    concat (gathered_after settings commands 1 most) ≡ rest_after settings commands
gathers_rest settings commands most cut =
    gathered_left most (line (rows_after settings.estimate commands)) (left_if_cut settings commands cut)
    ∙ ap rest_of (sym (current_is_first settings commands))

some_in_line : (rows : List Row) → is_left (first_left rows) ≡ true → false ≡ (length rows == 0)
some_in_line [] left = absurd (cc)
some_in_line (row ∷ rows) left = grind (arith, nat_tests)

-- with a front that is cut something flushed is left
pub unempty_if_cut : (settings : Settings) (commands : List Command) → true ≡ cut_after settings commands →
    false ≡ empty_after settings commands
unempty_if_cut settings commands cut =
    some_in_line (line (rows_after settings.estimate commands)) (left_if_cut settings commands cut)

no_bytes_before : (message : Message) (messages : List Message) → SendFront ≡ next_by false (Some message) →
    0 ≡ bytes_in (blocks_in_front (message ∷ messages))
no_bytes_before (Block bytes) messages next = absurd (cc)
no_bytes_before (Region units) messages next = refl
no_bytes_before (Other value) messages next = refl

no_bytes_first : (rows : List Row) → SendFront ≡ next_by false (first_left rows) →
    0 ≡ bytes_in (blocks_in_front (map unread_part rows))
no_bytes_first [] next = refl
no_bytes_first (row ∷ rows) next = no_bytes_before (unread_part row) (map unread_part rows) next

-- no block is in front if a front that is not blocked is to be sent by other means
pub no_bytes_in_front : (settings : Settings) (commands : List Command) →
    SendFront ≡ next_of_cut false settings commands → 0 ≡ bytes_in_front_after settings commands
no_bytes_in_front settings commands next =
    no_bytes_first (line (rows_after settings.estimate commands))
    (next ∙ ap (next_by false) (current_is_first settings commands))

-- what is next of a front that is cut is so
pub says_by : {now : Connected} (blocked : Bool) (front : Option Message) → Gives now current_after front →
    Gives now cut_after true → Says now (next_by blocked front)
says_by {now} true front is cut =
    λ commands stands. unempty_if_cut now.unsent.settings commands (cut commands stands)
says_by {now} false None is cut = (
  λ commands stands. unempty_if_cut now.unsent.settings commands (cut commands stands),
  λ commands stands. no_bytes_in_front now.unsent.settings commands (ap (next_by false) (is commands stands)),
)
says_by {now} false (Some (Block bytes)) is cut = tt
says_by {now} false (Some (Region units)) is cut = (
  λ commands stands. unempty_if_cut now.unsent.settings commands (cut commands stands),
  λ commands stands. no_bytes_in_front now.unsent.settings commands (ap (next_by false) (is commands stands)),
)
says_by {now} false (Some (Other value)) is cut = (
  λ commands stands. unempty_if_cut now.unsent.settings commands (cut commands stands),
  λ commands stands. no_bytes_in_front now.unsent.settings commands (ap (next_by false) (is commands stands)),
)

module _ {old new : Connected} {sent_before sent_after : Option (List ℕ)}
    {calls_before calls_after : Option (List Call)} {done : Sent} where
  -- what was sent of what is gathered was sent of the rest
  pub sends_rest : Gives old cut_after true → Sends 1 most_bytes old sent_before done new sent_after →
      (let result : Result Sent SendFault = Ok done in Asks 1 most_bytes old calls_before result calls_after) →
      SendsRest old sent_before calls_before done new sent_after calls_after
  sends_rest cut sends asks = record {
    cut = cut;
    alone = λ commands stands.
        sends.sent commands stands
        ∙ ap (λ rest. with_more sent_before (take done.bytes rest))
        (gathers_rest old.unsent.settings commands most_bytes (cut commands stands));
    sends = sends;
    asks = asks;
  }

  module _ (rest : SendsRest old sent_before calls_before done new sent_after calls_after) where
    -- after that no front is cut
    pub ends_cut : (result : Option Next) → IfNone result (Gives new cut_after false) →
        IfNone result (EndsCut old sent_before calls_before new sent_after calls_after)
    ends_cut None uncut = record { uncut = uncut; by = inr (_, rest) }
    ends_cut (Some next) uncut = uncut

    -- or it still is
    pub leaves_cut : (result : Option Next) → IfSome result (λ next. Gives new cut_after true) →
        IfSome result (λ next. Gives new (next_of_cut done.blocked) next) →
        IfSome result (λ next. LeavesCut old sent_before calls_before next new sent_after calls_after)
    leaves_cut None still says = still
    leaves_cut (Some next) still says = inl record { done = done; rest = rest; still = still; says = says }

-- a socket broke at the rest of the front, and the connection was given up
pub fails_at_cut : {old left new : Connected} {sent_before sent_after : Option (List ℕ)}
    {calls_before calls_after : Option (List Call)} (fault : SendFault) (error : Error) → fault ≡ IsBroken error →
    left ≡ old → Gives old cut_after true →
    (let result : Result Sent SendFault = Err fault in Asks 1 most_bytes old calls_before result calls_after) →
    sent_after ≡ sent_before → IsGivenUp left broken new →
    LeavesCut old sent_before calls_before (Broken error) new sent_after calls_after
fails_at_cut {old = old} {new = new} fault error is same cut asks unsent given_up = inr record {
  fault = fault;
  cut = cut;
  asks = asks;
  unsent = unsent;
  says = ap next_after_fault (sym is);
  leaves = subst (λ one. LeavesAtFault one old new) (sym is) (subst (λ one. IsGivenUp one broken new) same given_up);
}

-- what is so of the other is so of one of two
pub says_of_other : (urgent other : Connected) (next : Next) → ¬ (next ≡ Rest) → Says other next →
    SaysOfBoth urgent other next
says_of_other urgent other Rest unrest says = absurd (unrest refl)
says_of_other urgent other WaitForRoom unrest says = inr says
says_of_other urgent other ComeAgain unrest says = inr says
says_of_other urgent other SendFront unrest says = inr says
says_of_other urgent other Closed unrest says = inr says
says_of_other urgent other (Broken error) unrest says = inr says
