-- What is read off the accounts, that a step of a lane keeps them, and what the words hold if one free lane has the
-- whole room.
use Rattle.std.proofs.Common.{◌≡◌, ◌≢◌, ℕ, zero, suc, ◌+◌, ◌-◌, ◌<◌, ◌≤◌, List, set, Some, slice_get, ap, arith, false}
use Rattle.std.proofs.Common.{unwrap_or}
use Rattle.std.proofs.lemmas.Bool.Decides.{nat_tests}
use Rattle.std.proofs.lemmas.List.Elements.{All-set, All-weaker}
use Rattle.std.proofs.lemmas.Nat.Bits.{bit_at-lt}
use Rattle.std.specs.Int.{bit_at}
use Rattle.std.specs.List.{All}
use Rattle.ob_types.specs.Marks.{Marks}
use Rattle.ob_core.specs.World.{AccountsHold, BitsAgree, BytesAgree, IsWithinRoom, MarkAgrees, raisers, owed_by}
use Rattle.ob_core.specs.World.{AreAmong, CoreState, Grant, is_set}
use Rattle.ob_core.specs.Step.{core_after_step, total_after, word_after, CanMake, IsFree}
use Rattle.ob_core.specs.declared.lane.Lane.{Lane}
use Rattle.ob_core.specs.declared.lane_step.LaneStep.{LaneStep}
use Rattle.ob_core.proofs.LaneSums.{all_at, at-le-sum_by, sum_by-put, sum_by-le-each, sum_by-le-outside}
use Rattle.ob_core.proofs.StepLemmas.{grant-lane_after, moved-step, IsWithinRoom-step, AreAmong-step, MarkAgrees-step}
use Rattle.ob_core.proofs.StepLemmas.{shown-step, Raising}

-- ---- what is read off the accounts

-- a lane owes no more than the total
pub owed_by-le-total : (grant : Grant) (core : CoreState) (index : ℕ) (lane : Lane) → BytesAgree grant core
    → slice_get core.lanes index ≡ Some lane → owed_by lane ≤ core.total
owed_by-le-total grant core index lane agree is_lane =
    omega (arith, at-le-sum_by owed_by core.lanes index lane is_lane, agree.total)

-- what all others owe fits the room outside the lane
pub total-le-outside : (grant : Grant) (core : CoreState) (index : ℕ) (lane : Lane) → BytesAgree grant core
    → slice_get core.lanes index ≡ Some lane → core.total + lane.room ≤ grant.room + owed_by lane
total-le-outside grant core index lane agree is_lane =
    let each : All (λ (l : Lane). owed_by l ≤ l.room) core.lanes = agree.within in
    omega (arith, sum_by-le-outside owed_by (λ l. l.room) core.lanes index lane is_lane each, agree.total, agree.rooms)

-- the total fits the whole room
pub total-le-room : (grant : Grant) (core : CoreState) → BytesAgree grant core → core.total ≤ grant.room
total-le-room grant core agree =
    let each : All (λ (l : Lane). owed_by l ≤ l.room) core.lanes = agree.within in
    omega (arith, sum_by-le-each owed_by (λ l. l.room) core.lanes each, agree.total, agree.rooms)

-- outside a lane that holds a bit no lane raises it
pub raisers-le-lane : (grant : Grant) (core : CoreState) (index : ℕ) (lane : Lane) (i : ℕ)
    → BitsAgree grant core → slice_get core.lanes index ≡ Some lane → bit_at lane.held i ≡ 1
    → raisers core.lanes i ≤ bit_at lane.raised i
raisers-le-lane grant core index lane i agree is_lane held =
    let each : All (λ (l : Lane). bit_at l.raised i ≤ bit_at l.held i) core.lanes =
    All-weaker (λ (l : Lane). AreAmong l.raised l.held) (λ l. bit_at l.raised i ≤ bit_at l.held i)
    (λ l among. among i) core.lanes agree.among in
    omega (
      arith,
      sum_by-le-outside (λ l. bit_at l.raised i)
          (λ l. bit_at l.held i) core.lanes index lane is_lane each,
      agree.held i,
      bit_at-lt grant.bits i,
      held,
    )

-- a lane does not hold bit 0
held-above : (grant : Grant) (core : CoreState) (index : ℕ) (lane : Lane) (i : ℕ) → BitsAgree grant core
    → slice_get core.lanes index ≡ Some lane → bit_at lane.held i ≡ 1 → 0 < i
held-above grant core index lane zero agree is_lane held =
    let clear : bit_at grant.bits 0 ≢ 1 = λ is_one. absurd (grind (arith, nat_tests, agree.mark)) in
    absurd (clear (omega (
      arith,
      agree.held 0,
      at-le-sum_by (λ l. bit_at l.held 0) core.lanes index lane is_lane,
      held,
      bit_at-lt grant.bits 0,
    )))
held-above grant core index lane (suc i) agree is_lane held = omega arith

-- so of the bits that a lane holds, the word shows those that it raised
pub shown-held : (grant : Grant) (core : CoreState) (index : ℕ) (lane : Lane) (i : ℕ) → BitsAgree grant core
    → slice_get core.lanes index ≡ Some lane → bit_at lane.held i ≡ 1 → bit_at core.word i ≡ bit_at lane.raised i
shown-held grant core index lane i agree is_lane held =
    let above : 0 < i = held-above grant core index lane i agree is_lane held in
    omega (
      arith,
      agree.shown i above,
      raisers-le-lane grant core index lane i agree is_lane held,
      at-le-sum_by
          (λ l. bit_at l.raised i) core.lanes index lane is_lane,
    )

-- ---- with another lane in its place

module _ (grant : Grant) (core : CoreState) (index : ℕ) (lane new : Lane)
    (is_lane : slice_get core.lanes index ≡ Some lane) (total word : ℕ) where
  abbrev after : CoreState
  after = record { total = total; word = word; marks = core.marks; lanes = set core.lanes index new }

  -- the accounts of the bytes hold if the total moves by as much as the debt, and the room stays
  BytesAgree-put : BytesAgree grant core → total + owed_by lane ≡ core.total + owed_by new → new.room ≡ lane.room
      → (IsWithinRoom lane → IsWithinRoom new) → BytesAgree grant after
  BytesAgree-put agree moved room within = record {
    marks = agree.marks;
    total = omega (arith, sum_by-put owed_by core.lanes index lane new is_lane, moved, agree.total);
    rooms = omega (arith, sum_by-put (λ l. l.room) core.lanes index lane new is_lane, room, agree.rooms);
    within = All-set IsWithinRoom core.lanes index new
        (within (all_at IsWithinRoom core.lanes index lane is_lane agree.within)) agree.within;
  }

  -- those of the bits hold if the word moves by as much as the raised bits, and the held bits stay
  BitsAgree-put : BitsAgree grant core → new.held ≡ lane.held
      → (AreAmong lane.raised lane.held → AreAmong new.raised new.held)
      → ((i : ℕ) → 0 < i → bit_at word i + bit_at lane.raised i ≡ bit_at core.word i + bit_at new.raised i)
      → BitsAgree grant after
  BitsAgree-put agree held among moved =
      let Among : Lane → Type 0 = λ l. AreAmong l.raised l.held in
      record {
        mark = agree.mark;
        held = λ i. omega (
          arith,
          sum_by-put (λ l. bit_at l.held i) core.lanes index lane new is_lane,
          ap (λ n. bit_at n i) held,
          agree.held i,
        );
        among = All-set Among core.lanes index new
            (among (all_at Among core.lanes index lane is_lane agree.among)) agree.among;
        shown = λ i above. omega (
          arith,
          sum_by-put (λ l. bit_at l.raised i) core.lanes index lane new is_lane,
          moved i above,
          agree.shown i above,
        );
      }

-- ---- after a step

pub BytesAgree-step : (grant : Grant) (core : CoreState) (index : ℕ) (lane : Lane) (step : LaneStep)
    → slice_get core.lanes index ≡ Some lane → CanMake lane step → BytesAgree grant core
    → BytesAgree grant (core_after_step core index lane step)
BytesAgree-step grant core index lane step is_lane may agree =
    let owes : owed_by lane ≤ core.total = owed_by-le-total grant core index lane agree is_lane in
    BytesAgree-put grant core index lane _ is_lane (total_after step core.total)
    (word_after step core.marks core.total core.word) agree
    (moved-step step core.total lane may owes)
    (grant-lane_after step lane).room
    (IsWithinRoom-step step lane may)

-- the mark does not see the lanes
pub MarkAgrees-lanes : (core : CoreState) (lanes : List Lane) → MarkAgrees core → MarkAgrees (record core { lanes = lanes })
MarkAgrees-lanes core lanes agree = record { above = agree.above; below = agree.below }

pub MarkAgrees-core_step : (core : CoreState) (index : ℕ) (lane : Lane) (step : LaneStep) → CanMake lane step
    → MarkAgrees core → MarkAgrees (core_after_step core index lane step)
MarkAgrees-core_step core index lane step may agree =
    let after = MarkAgrees-step step core lane may agree in record { above = after.above; below = after.below }

-- of a bit, those who raise it but for the lane
raising : (grant : Grant) (core : CoreState) (index : ℕ) (lane : Lane) (i : ℕ)
    → slice_get core.lanes index ≡ Some lane → BitsAgree grant core → 0 < i
    → Raising i core.word lane (raisers core.lanes i - bit_at lane.raised i)
raising grant core index lane i is_lane agree above = record {
  shown = omega (arith, agree.shown i above, at-le-sum_by (λ l. bit_at l.raised i) core.lanes index lane is_lane);
  alone = λ held. omega (arith, raisers-le-lane grant core index lane i agree is_lane held);
}

pub BitsAgree-step : (grant : Grant) (core : CoreState) (index : ℕ) (lane : Lane) (step : LaneStep)
    → slice_get core.lanes index ≡ Some lane → CanMake lane step → BitsAgree grant core
    → BitsAgree grant (core_after_step core index lane step)
BitsAgree-step grant core index lane step is_lane may agree =
    BitsAgree-put grant core index lane _ is_lane (total_after step core.total)
    (word_after step core.marks core.total core.word) agree
    (grant-lane_after step lane).held
    (AreAmong-step step lane may)
    (λ i above.
    let raised = raising grant core index lane i is_lane agree above in
    omega (arith, raised.shown, shown-step step core.marks core.total core.word lane i _ may above raised))

pub AccountsHold-step : (grant : Grant) (core : CoreState) (index : ℕ) (lane : Lane) (step : LaneStep)
    → slice_get core.lanes index ≡ Some lane → CanMake lane step → AccountsHold grant core
    → AccountsHold grant (core_after_step core index lane step)
AccountsHold-step grant core index lane step is_lane may accounts = record {
  bytes = BytesAgree-step grant core index lane step is_lane may accounts.bytes;
  mark = MarkAgrees-core_step core index lane step may accounts.mark;
  bits = BitsAgree-step grant core index lane step is_lane may accounts.bits;
}

-- ---- with a lane in the place of one that is like it

-- a lane owes what another owes, and has the same room and bits
pub record IsAlike (lane new : Lane) : Type 0 where
  pub debt : owed_by new ≡ owed_by lane
  pub room : new.room ≡ lane.room
  pub held : new.held ≡ lane.held
  pub raised : new.raised ≡ lane.raised

within_alike : (lane new : Lane) → IsAlike lane new → IsWithinRoom lane → IsWithinRoom new
within_alike lane new alike within = omega (arith, alike.debt, alike.room, within)

among_alike : (lane new : Lane) → IsAlike lane new → AreAmong lane.raised lane.held → AreAmong new.raised new.held
among_alike lane new alike among =
    λ i. omega (arith, ap (λ n. bit_at n i) alike.held, ap (λ n. bit_at n i) alike.raised, among i)

pub BytesAgree-alike : (grant : Grant) (core : CoreState) (index : ℕ) (lane new : Lane)
    → slice_get core.lanes index ≡ Some lane → IsAlike lane new → BytesAgree grant core
    → BytesAgree grant (record core { lanes = set core.lanes index new })
BytesAgree-alike grant core index lane new is_lane alike agree =
    BytesAgree-put grant core index lane new is_lane core.total core.word agree (omega (arith, alike.debt)) alike.room
    (within_alike lane new alike)

BitsAgree-alike : (grant : Grant) (core : CoreState) (index : ℕ) (lane new : Lane)
    → slice_get core.lanes index ≡ Some lane → IsAlike lane new → BitsAgree grant core
    → BitsAgree grant (record core { lanes = set core.lanes index new })
BitsAgree-alike grant core index lane new is_lane alike agree =
    BitsAgree-put grant core index lane new is_lane core.total core.word agree alike.held (among_alike lane new alike)
    (λ i above. omega (arith, ap (λ n. bit_at n i) alike.raised))

pub AccountsHold-alike : (grant : Grant) (core : CoreState) (index : ℕ) (lane new : Lane)
    → slice_get core.lanes index ≡ Some lane → IsAlike lane new → AccountsHold grant core
    → AccountsHold grant (record core { lanes = set core.lanes index new })
AccountsHold-alike grant core index lane new is_lane alike accounts = record {
  bytes = BytesAgree-alike grant core index lane new is_lane alike accounts.bytes;
  mark = MarkAgrees-lanes core _ accounts.mark;
  bits = BitsAgree-alike grant core index lane new is_lane alike accounts.bits;
}

module _ (grant : Grant) (core : CoreState) (index : ℕ) (lane : Lane) (accounts : AccountsHold grant core)
    (is_lane : slice_get core.lanes index ≡ Some lane) (free : IsFree lane) (whole : grant.room ≤ lane.room) where
  pub nothing_left : core.total ≡ 0
  nothing_left =
      let nothing : owed_by lane ≡ 0 = ap (λ debt. unwrap_or debt 0) free.debt in
      omega (arith, total-le-outside grant core index lane accounts.bytes is_lane)

  pub mark_clear : 0 < grant.marks.low → is_set core.word 0 ≡ false
  mark_clear positive =
      let same_low : core.marks.low ≡ grant.marks.low = ap (λ (m : Marks). m.low) accounts.bytes.marks in
      accounts.mark.below (omega (arith, positive, same_low, nothing_left)) (omega (arith, nothing_left))
