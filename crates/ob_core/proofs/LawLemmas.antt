-- The laws of whole runs: the accounts of the bytes and of the mark after any turns, and the changes.
use Rattle.std.proofs.Common.{◌≡◌, ◌<◌, ◌≤◌, Bool, true, false, List, [], ◌∷◌, None, refl, ap, subst, arith}
use Rattle.std.specs.List.{cons_option}
use Rattle.ob_types.specs.Marks.{is_writable, turn as turned, Marks}
use Rattle.ob_types.specs.declared.reply.Change.{Change}
use Rattle.ob_types.specs.declared.reply.Change.TheVariants.{Unwritable, Writable}
use Rattle.ob_core.specs.World.{AccountsHold, BytesAgree, MarkAgrees, sum_owed, is_set, CoreState, Grant, new_core}
use Rattle.ob_core.specs.World.{grant_of}
use Rattle.ob_core.specs.Inside.{IsSound}
use Rattle.ob_core.specs.Step.{refusal_of}
use Rattle.ob_core.specs.Turn.{answers_of, changes_in, core_after_all, AlternateFrom, step_of, lane_after_nothing}
use Rattle.ob_core.specs.Turn.{core_after}
use Rattle.ob_core.specs.declared.ask.Ask.{Ask}
use Rattle.ob_core.specs.declared.ask.Turn.{Turn}
use Rattle.ob_core.specs.declared.lane.Lane.{Lane}
use Rattle.ob_core.specs.declared.lane_start.LaneStart.{LaneStart}
use Rattle.ob_core.proofs.AccountsLemmas.{AccountsHold-step, AccountsHold-alike, BytesAgree-step, BytesAgree-alike}
use Rattle.ob_core.proofs.AccountsLemmas.{IsAlike, MarkAgrees-core_step, MarkAgrees-lanes}
use Rattle.ob_core.proofs.Kept.{kept_by_all, kept_by_turn}
use Rattle.ob_core.proofs.BeginningLemmas.{BytesAgree-new, MarkAgrees-new}
use Rattle.ob_core.proofs.TurnLemmas.{owed_by-lane_after_nothing, rest-lane_after_nothing}

-- ---- the accounts

-- an ask that is no step leaves a lane that is like the one before
pub IsAlike-nothing : (lane : Lane) (ask : Ask) → refusal_of lane ask ≡ None → step_of lane ask ≡ None
    → IsAlike lane (lane_after_nothing lane ask)
IsAlike-nothing lane ask accepted no_step =
    let rest = rest-lane_after_nothing lane ask in
    record {
      debt = owed_by-lane_after_nothing lane ask accepted no_step;
      room = ap (λ (l : Lane). l.room) rest;
      held = ap (λ (l : Lane). l.held) rest;
      raised = ap (λ (l : Lane). l.raised) rest;
    }

pub AccountsHold-turn : (grant : Grant) (core : CoreState) (turn : Turn) → AccountsHold grant core
    → AccountsHold grant (core_after core turn)
AccountsHold-turn grant core turn accounts =
    kept_by_turn (AccountsHold grant) core turn (record {
      by_step = λ lane step is_lane may. AccountsHold-step grant core turn.lane lane step is_lane may accounts;
      by_nothing = λ lane is_lane accepted no_step. AccountsHold-alike grant core turn.lane lane _ is_lane
          (IsAlike-nothing lane turn.ask accepted no_step) accounts;
    }) accounts

-- those of the bytes hold after any turns, whatever bits the lanes hold
pub BytesAgree-all : (marks : Marks) (starts : List LaneStart) (turns : List Turn)
    → BytesAgree (grant_of marks starts) (core_after_all (new_core marks starts) turns)
BytesAgree-all marks starts turns =
    let grant : Grant = grant_of marks starts in
    kept_by_all (BytesAgree grant) (λ core turn agree. record {
      by_step = λ lane step is_lane may. BytesAgree-step grant core turn.lane lane step is_lane may agree;
      by_nothing = λ lane is_lane accepted no_step. BytesAgree-alike grant core turn.lane lane _ is_lane
          (IsAlike-nothing lane turn.ask accepted no_step) agree;
    }) turns (new_core marks starts) (BytesAgree-new marks starts)

-- and so does the mark
pub MarkAgrees-all : (marks : Marks) (starts : List LaneStart) (turns : List Turn)
    → MarkAgrees (core_after_all (new_core marks starts) turns)
MarkAgrees-all marks starts turns =
    kept_by_all MarkAgrees (λ core turn agree. record {
      by_step = λ lane step is_lane may. MarkAgrees-core_step core turn.lane lane step may agree;
      by_nothing = λ lane is_lane accepted no_step. MarkAgrees-lanes core _ agree;
    }) turns (new_core marks starts) (MarkAgrees-new marks starts)

-- ---- the mark

-- in order, the marks are such that a total above the high one is not below the low one, and the other way round
pub set_above : (grant : Grant) (core : CoreState) → core.marks ≡ grant.marks → MarkAgrees core
    → grant.marks.low ≤ grant.marks.high → grant.marks.high < core.total → is_set core.word 0 ≡ true
set_above grant core same agree ordered above =
    let same_low : core.marks.low ≡ grant.marks.low = ap (λ (m : Marks). m.low) same in
    let same_high : core.marks.high ≡ grant.marks.high = ap (λ (m : Marks). m.high) same in
    agree.above (omega (arith, same_high, above)) (omega (arith, same_low, ordered, above))

pub clear_below : (grant : Grant) (core : CoreState) → core.marks ≡ grant.marks → MarkAgrees core
    → grant.marks.low ≤ grant.marks.high → core.total < grant.marks.low → is_set core.word 0 ≡ false
clear_below grant core same agree ordered below =
    let same_low : core.marks.low ≡ grant.marks.low = ap (λ (m : Marks). m.low) same in
    let same_high : core.marks.high ≡ grant.marks.high = ap (λ (m : Marks). m.high) same in
    agree.below (omega (arith, same_low, below)) (omega (arith, same_high, ordered, below))

-- if nothing is owed, bit 0 is clear
pub clear_at_rest : (grant : Grant) (core : CoreState) → BytesAgree grant core → MarkAgrees core
    → 0 < grant.marks.low → sum_owed core.lanes ≡ 0 → is_set core.word 0 ≡ false
clear_at_rest grant core bytes agree low nothing =
    let same_low : core.marks.low ≡ grant.marks.low = ap (λ (m : Marks). m.low) bytes.marks in
    agree.below (omega (arith, same_low, low, bytes.total, nothing)) (omega (arith, bytes.total, nothing))

-- a core that is sound shows the mark so by the marks of its own
module _ (core : CoreState) (sound : IsSound core) where
  pub sound_above : core.marks.high < core.total → is_set core.word 0 ≡ true
  sound_above above =
      set_above sound.grant core sound.accounts.bytes.marks sound.accounts.mark sound.ordered
      (subst (λ (m : Marks). m.high < core.total) sound.accounts.bytes.marks above)

  pub sound_below : core.total < core.marks.low → is_set core.word 0 ≡ false
  sound_below below =
      clear_below sound.grant core sound.accounts.bytes.marks sound.accounts.mark sound.ordered
      (subst (λ (m : Marks). core.total < m.low) sound.accounts.bytes.marks below)

  pub sound_at_rest : 0 < core.marks.low → sum_owed core.lanes ≡ 0 → is_set core.word 0 ≡ false
  sound_at_rest low =
      clear_at_rest sound.grant core sound.accounts.bytes sound.accounts.mark
      (subst (λ (m : Marks). 0 < m.low) sound.accounts.bytes.marks low)

-- ---- changes

-- the change that may come next
abbrev next_change : Bool → Change
next_change true = Unwritable
next_change false = Writable

alternate_more : (before after : Bool) (changes : List Change) → AlternateFrom (next_change after) changes
    → AlternateFrom (next_change before) (cons_option (turned before after) changes)
alternate_more true true changes later = later
alternate_more true false changes later = (refl, later)
alternate_more false true changes later = (refl, later)
alternate_more false false changes later = later

pub changes_go_to_and_fro : (turns : List Turn) (core : CoreState)
    → AlternateFrom (next_change (is_writable core.word)) (changes_in (answers_of core turns))
changes_go_to_and_fro [] core = tt
changes_go_to_and_fro (turn ∷ turns) core =
    alternate_more (is_writable core.word) (is_writable (core_after core turn).word)
    (changes_in (answers_of (core_after core turn) turns)) (changes_go_to_and_fro turns (core_after core turn))
