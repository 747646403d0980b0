-- With something in line a buffer is open and a region has a length that was accepted; where a transport stands, part
-- by part.
use Rattle.std.proofs.Common.{◌≡◌, ℕ, ◌≤◌, Bool, true, false, List, [], ◌∷◌, ◌++◌, map, refl, sym, ap, ◌∙◌, subst, cond}
use Rattle.std.proofs.Common.{ltb, ◌||◌, arith, eqb}
use Rattle.std.proofs.lemmas.Bool.Decides.{nat_tests}
use Rattle.std.proofs.lemmas.List.Folds.{list_any-append}
use Rattle.std.proofs.lemmas.List.Sums.{fold-append}
use Rattle.std.specs.Prelude.{Option, Some, None}
use Rattle.std.specs.List.{AllByRecursion}
use Rattle.ob_types.specs.PendingSize.{counted_bytes, is_oversize}
use Rattle.ob_types.specs.declared.command.Command.{Command}
use Rattle.ob_types.specs.declared.command.Command.TheVariants.{Write, Flush, Remove, RemoveWith, RemoveBytes, Progress}
use Rattle.ob_types.specs.declared.command.Command.TheVariants.{Cancel, FailFlushed, Close, UserBit, SetMarks}
use Rattle.ob_types.specs.declared.estimate.Estimate.{Estimate}
use Rattle.ob_types.specs.declared.message.Message.{Message}
use Rattle.ob_types.specs.declared.message.Message.TheVariants.{Block, Region, Other}
use Rattle.ob_types.specs.declared.promise.Cause.{Cause}
use Rattle.ob_types.specs.declared.refusal.Refusal.{Refusal}
use Rattle.ob_types.specs.declared.refusal.Refusal.TheVariants.{Oversize, TooMuch}
use Rattle.ob_types.specs.Limits.{greatest_pending_size, greatest_region}
use Rattle.ob_seq.specs.Rows.{Settings, front, is_in_line, Row, is_voided, new_row, unread_part, without_skipped}
use Rattle.ob_seq.specs.Answer.{are_accepted, first_refusal, is_too_much, refusal_of}
use Rattle.ob_seq.specs.State.{is_close, is_closed}
use Rattle.ob_seq.specs.Effect.{closed_row, effect, rows_after}
use Rattle.ob_seq.proofs.Rows.Accepting.{kept_along_accepted, open_and_fit}
use Rattle.ob_seq.proofs.Rows.EachRow.{Shrink, effect_shrinks}
use Rattle.ob_history.specs.History.{history_after, History}
use Rattle.ob_transport.specs.Pass.{booked_units, standing}
use Rattle.ob_transport.specs.Sent.{Content}

module _ (estimate : Estimate) where
  -- the rows after one more command
  pub rows_more : (commands : List Command) (command : Command) →
      rows_after estimate (commands ++ command ∷ []) ≡ effect estimate (rows_after estimate commands) command
  rows_more commands command = fold-append (effect estimate) [] commands (command ∷ [])

module _ (settings : Settings) where
  -- how messages are counted
  abbrev estimate : Estimate
  estimate = settings.estimate

  -- a close leaves nothing in line
  none_in_line : (cause : Cause) (rows : List Row) → front (map (closed_row cause) rows) ≡ None
  none_in_line cause [] = refl
  none_in_line cause (row ∷ rows) = none_in_line cause rows

  after_close : (rows : List Row) (command : Command) → is_close command ≡ true →
      front (effect estimate rows command) ≡ None
  after_close rows (Write message) is = absurd (cc)
  after_close rows Flush is = absurd (cc)
  after_close rows Remove is = absurd (cc)
  after_close rows (RemoveWith cause) is = absurd (cc)
  after_close rows (RemoveBytes n) is = absurd (cc)
  after_close rows (Progress n) is = absurd (cc)
  after_close rows (Cancel id) is = absurd (cc)
  after_close rows (FailFlushed cause notify) is = absurd (cc)
  after_close rows (Close cause) is = none_in_line cause rows
  after_close rows (UserBit index writable) is = absurd (cc)
  after_close rows (SetMarks marks) is = absurd (cc)

  ClosedIsEmpty : List Command → Type 0
  ClosedIsEmpty commands = is_closed commands ≡ true → front (rows_after estimate commands) ≡ None

  one_more_empty : (earlier : List Command) (command : Command) → first_refusal estimate earlier command ≡ None →
      ClosedIsEmpty earlier → ClosedIsEmpty (earlier ++ command ∷ [])
  unfolding ClosedIsEmpty
  one_more_empty earlier command accepted empty closed =
      let unclosed = (open_and_fit estimate earlier command accepted).0 in
      let is = sym (or_false (is_close command)) ∙ sym (ap (λ first. first || (is_close command || false)) unclosed)
      ∙ sym (list_any-append is_close earlier (command ∷ [])) ∙ closed in
      ap front (rows_more estimate earlier command) ∙ after_close (rows_after estimate earlier) command is
    where
      or_false : (b : Bool) → (b || false) ≡ b
      or_false true = refl
      or_false false = refl

  module _ (commands : List Command) (all : are_accepted settings [] commands ≡ true) where
    -- with a front the buffer is open
    pub open_with_front : (row : Row) → front (rows_after estimate commands) ≡ Some row → is_closed commands ≡ false
    unfolding ClosedIsEmpty
    open_with_front row is = by_test (is_closed commands) refl
      where
        by_test : (closed : Bool) → is_closed commands ≡ closed → closed ≡ false
        by_test true closed =
            let empty = kept_along_accepted settings ClosedIsEmpty one_more_empty [] commands all (λ no. absurd (cc)) in
            absurd (let none = empty closed in cc)
        by_test false closed = refl

  -- a message that is no region is short, and a region if its length is at most the greatest
  pub IsShort : Message → Type 0
  IsShort (Block bytes) = Unit {0}
  IsShort (Region length) = length ≤ greatest_region
  IsShort (Other value) = Unit {0}

  ShortRow : Row → Type 0
  ShortRow row = IsShort row.message

  ShortAfter : List Command → Type 0
  ShortAfter commands = AllByRecursion ShortRow (rows_after estimate commands)

  stay_short : (before after : List Row) → Shrink before after → AllByRecursion ShortRow before →
      AllByRecursion ShortRow after
  unfolding ShortRow
  stay_short [] [] shrink short = tt
  stay_short [] (row ∷ after) shrink short = absurd shrink
  stay_short (was ∷ before) [] shrink short = absurd shrink
  stay_short (was ∷ before) (row ∷ after) shrink short =
      (subst IsShort (sym shrink.0.message) short.0, stay_short before after shrink.1 short.1)

  not_oversize : (oversize much : Bool) →
      (let refusal : Option Refusal = cond oversize (Some Oversize) (cond much (Some TooMuch) None) in refusal ≡ None)
      → oversize ≡ false
  not_oversize true much fits = absurd (cc)
  not_oversize false much fits = refl

  second_false : (a b : Bool) → (a || b) ≡ false → b ≡ false
  second_false true b none = absurd (cc)
  second_false false b none = none

  short_message : (rows : List Row) (message : Message) → refusal_of estimate rows (Write message) ≡ None →
      IsShort message
  unfolding IsShort
  short_message rows (Block bytes) fits = tt
  short_message rows (Region length) fits =
      let message = Region length in
      let size = counted_bytes estimate message in
      within length (second_false (ltb greatest_pending_size size) (ltb greatest_region length)
      (not_oversize (is_oversize estimate message) (is_too_much estimate rows size) fits))
    where
      within : (n : ℕ) → ltb greatest_region n ≡ false → n ≤ greatest_region
      within n is = grind (arith, nat_tests)
  short_message rows (Other value) fits = tt

  short_more : (rows : List Row) (row : Row) → AllByRecursion ShortRow rows → ShortRow row →
      AllByRecursion ShortRow (rows ++ row ∷ [])
  short_more [] row short one = (one, tt)
  short_more (first ∷ rows) row short one = (short.0, short_more rows row short.1 one)

  short_effect : (rows : List Row) (command : Command) → refusal_of estimate rows command ≡ None →
      AllByRecursion ShortRow rows → AllByRecursion ShortRow (effect estimate rows command)
  unfolding ShortRow
  short_effect rows (Write message) fits short = short_more rows (new_row estimate message) short
      (short_message rows message fits)
  short_effect rows command fits short = stay_short rows (effect estimate rows command)
      (effect_shrinks estimate rows command refl) short

  one_more_short : (earlier : List Command) (command : Command) → first_refusal estimate earlier command ≡ None →
      ShortAfter earlier → ShortAfter (earlier ++ command ∷ [])
  unfolding ShortAfter
  one_more_short earlier command accepted short =
      subst (AllByRecursion ShortRow) (sym (rows_more estimate earlier command))
      (short_effect (rows_after estimate earlier) command (open_and_fit estimate earlier command accepted).1 short)

  -- what is found has what each of them has
  found_short : (rows : List Row) (row : Row) → AllByRecursion ShortRow rows → front rows ≡ Some row → ShortRow row
  found_short [] row short is = absurd (cc)
  found_short (first ∷ rows) row short is = by_line (is_in_line first) is (found_short rows row short.1)
    where
      by_line : (here : Bool) → cond here (Some first) (front rows) ≡ Some row →
          (front rows ≡ Some row → ShortRow row) → ShortRow row
      by_line true is rest = subst (λ (found : Option Row). ShortFound found) is short.0
        where
          ShortFound : Option Row → Type 0
          ShortFound None = Unit {0}
          ShortFound (Some found) = ShortRow found
      by_line false is rest = rest is

  -- a region in front has a length that was accepted
  length_within : (row : Row) (length : ℕ) → ShortRow row → unread_part row ≡ Region length →
      length ≤ greatest_region
  unfolding ShortRow IsShort
  length_within row length short is = by_place (is_voided row.place) row.message is short
    where
      length_of : Message → ℕ
      length_of (Block bytes) = 0
      length_of (Region units) = units
      length_of (Other value) = 0

      by_place : (voided : Bool) (message : Message) →
          cond voided (Block []) (without_skipped row.skipped message) ≡ Region length →
          IsShort message → length ≤ greatest_region
      by_place true message is short = let same = ap length_of is in omega (arith, same)
      by_place false (Block bytes) is short = let same = ap length_of is in omega (arith, same)
      by_place false (Region units) is short = let same = ap length_of is in omega (arith, same, short)
      by_place false (Other value) is short = let same = ap length_of is in omega (arith, same)

  pub region_within : (commands : List Command) → are_accepted settings [] commands ≡ true → (row : Row) (length : ℕ) →
      front (rows_after estimate commands) ≡ Some row → unread_part row ≡ Region length → length ≤ greatest_region
  unfolding ShortAfter
  region_within commands all row length is part =
      let short = kept_along_accepted settings ShortAfter one_more_short [] commands all tt in
      length_within row length (found_short (rows_after estimate commands) row short is) part

-- with the same history and the same content a transport stands at the same
pub same_standing : {history history' : History} {sink sink' : Content} → history ≡ history' → sink ≡ sink' →
    standing history sink ≡ standing history' sink'
same_standing {history} {history'} {sink} {sink'} histories sinks =
    ap (λ first. standing first sink) histories ∙ ap (λ second. standing history' second) sinks

-- a command given by the same caller to the same history leaves the same
pub same_after : {history history' : History} {caller caller' : ℕ} (command : Command) → history ≡ history' →
    caller ≡ caller' →
    history_after history caller command ≡ history_after history' caller' command
same_after {history} {history'} {caller} {caller'} command histories callers =
    ap (λ first. history_after first caller command) histories
    ∙ ap (λ second. history_after history' second command) callers

-- the units of the whole rest are booked by their progress and the removal of the front, and others by their progress
pub whole_rest : (caller rest n : ℕ) (history : History) → n ≡ rest →
    booked_units caller rest n history ≡ history_after (history_after history caller (Progress n)) caller Remove
whole_rest caller rest n history is =
    let progressed = history_after history caller (Progress n) in
    ap (λ whole. cond whole (history_after progressed caller Remove) progressed) (test n rest is)
  where
    test : (n rest : ℕ) → n ≡ rest → eqb n rest ≡ true
    test n rest is = grind (arith, nat_tests)

pub part_of_rest : (caller rest n : ℕ) (history : History) → ¬ (n ≡ rest) →
    booked_units caller rest n history ≡ history_after history caller (Progress n)
part_of_rest caller rest n history not =
    let progressed = history_after history caller (Progress n) in
    ap (λ whole. cond whole (history_after progressed caller Remove) progressed) (test n rest not)
  where
    test : (n rest : ℕ) → ¬ (n ≡ rest) → eqb n rest ≡ false
    test n rest not = grind (arith, nat_tests)
