-- A lane after a step, the mark, what a step leaves and how its change follows from what it finds.
use Rattle.std.proofs.Common.{◌≡◌, ℕ, ◌+◌, ◌-◌, ◌<◌, ◌≤◌, Bool, true, false, nat_lt, unwrap_or, ⊎_elim, eqb}
use Rattle.std.proofs.Common.{if◌then◌else◌, refl, sym, ap, ◌∙◌, subst, arith, ◌≢◌}
use Rattle.std.proofs.lemmas.Bool.{cases_eq}
use Rattle.std.proofs.lemmas.Bool.Decides.{nat_tests}
use Rattle.std.specs.Int.{bit_at}
use Rattle.ob_types.specs.Marks.{Marks, change_between, packed, word_half, total_half}
use Rattle.ob_core.specs.World.{IsWithinRoom, MarkAgrees, owed_by, is_set, with_bit, without_bit, PutsBit, AreAmong}
use Rattle.ob_core.specs.World.{CoreState}
use Rattle.ob_core.specs.Step.{is_held, total_after, raised_word, lowered_word, word_after, lane_after, CanMake}
use Rattle.ob_core.specs.Step.{value_found, change_found, core_after_step, LeavesRest}
use Rattle.ob_core.specs.declared.lane.Lane.{Lane}
use Rattle.ob_core.specs.declared.lane_step.LaneStep.{LaneStep}
use Rattle.ob_core.specs.declared.lane_step.LaneStep.TheVariants.{Add, Subtract, SetBit, ClearBit, Load}
use Rattle.ob_core.proofs.BitLemmas.{SetsBit-with_bit, ClearsBit-without_bit}

-- a lane has the room and the held bits of another
pub record HasGrantOf (old new : Lane) : Type 0 where
  pub room : new.room ≡ old.room
  pub held : new.held ≡ old.held

-- a step leaves its lane both
pub grant-lane_after : (step : LaneStep) (lane : Lane) → HasGrantOf lane (lane_after step lane)
grant-lane_after (Add amount) lane = record { room = refl; held = refl }
grant-lane_after (Subtract amount) lane = record { room = refl; held = refl }
grant-lane_after (SetBit index) lane = record { room = refl; held = refl }
grant-lane_after (ClearBit index) lane = record { room = refl; held = refl }
grant-lane_after Load lane = record { room = refl; held = refl }

-- the total moves by as much as the debt of the lane
pub moved-step : (step : LaneStep) (total : ℕ) (lane : Lane) → CanMake lane step → owed_by lane ≤ total
    → total_after step total + owed_by lane ≡ total + owed_by (lane_after step lane)
moved-step (Add amount) total lane may owes =
    let nothing : owed_by lane ≡ 0 = ap (λ debt. unwrap_or debt 0) may.0 in omega (arith, nothing)
moved-step (Subtract amount) total lane may owes =
    let all_of_it : owed_by lane ≡ amount = ap (λ debt. unwrap_or debt 0) may.0 in omega (arith, all_of_it, owes)
moved-step (SetBit index) total lane may owes = refl
moved-step (ClearBit index) total lane may owes = refl
moved-step Load total lane may owes = refl

pub IsWithinRoom-step : (step : LaneStep) (lane : Lane) → CanMake lane step → IsWithinRoom lane
    → IsWithinRoom (lane_after step lane)
IsWithinRoom-step (Add amount) lane may within = may.2
IsWithinRoom-step (Subtract amount) lane may within = omega arith
IsWithinRoom-step (SetBit index) lane may within = within
IsWithinRoom-step (ClearBit index) lane may within = within
IsWithinRoom-step Load lane may within = within

-- ---- bits

-- a held bit is a set bit of the mask, and not bit 0
pub is_held-set : (lane : Lane) (index : ℕ) → is_held lane index ≡ true → bit_at lane.held index ≡ 1
is_held-set lane index held = grind (arith, nat_tests)

pub is_held-above : (lane : Lane) (index : ℕ) → is_held lane index ≡ true → 0 < index
is_held-above lane index held = grind (arith, nat_tests)

-- a lane that puts a bit raises only what it holds
among-bit : (value index raised : ℕ) (lane : Lane) → PutsBit value lane.raised index raised
    → value ≤ bit_at lane.held index → AreAmong lane.raised lane.held → AreAmong raised lane.held
among-bit value index raised lane puts within among = λ i.
    ⊎_elim
    (λ at. subst (λ n. bit_at raised n ≤ bit_at lane.held n) (sym at) (omega (arith, puts.here, within)))
    (λ other. omega (arith, puts.others i other, among i))
    (cases_eq i index)

pub AreAmong-step : (step : LaneStep) (lane : Lane) → CanMake lane step → AreAmong lane.raised lane.held
    → AreAmong (lane_after step lane).raised (lane_after step lane).held
AreAmong-step (Add amount) lane may among = among
AreAmong-step (Subtract amount) lane may among = among
AreAmong-step (SetBit index) lane may among =
    among-bit 1 index _ lane (SetsBit-with_bit lane.raised index) (omega (arith, is_held-set lane index may)) among
AreAmong-step (ClearBit index) lane may among =
    among-bit 0 index _ lane (ClearsBit-without_bit lane.raised index) (omega arith) among
AreAmong-step Load lane may among = among

-- a word that is raised or lowered has its bits above bit 0 as before
raised_above : (word i : ℕ) (above : Bool) → 0 < i → bit_at (if above then with_bit word 0 else word) i ≡ bit_at word i
raised_above word i true above = (SetsBit-with_bit word 0).others i (λ at. absurd (omega (arith, at, above)))
raised_above word i false above = refl

lowered_above : (word i : ℕ) (below : Bool) → 0 < i
    → bit_at (if below then without_bit word 0 else word) i ≡ bit_at word i
lowered_above word i true above = (ClearsBit-without_bit word 0).others i (λ at. absurd (omega (arith, at, above)))
lowered_above word i false above = refl

pub bit_at-raised_word : (marks : Marks) (total word i : ℕ) → 0 < i
    → bit_at (raised_word marks total word) i ≡ bit_at word i
bit_at-raised_word marks total word i above = raised_above word i (nat_lt marks.high total) above

pub bit_at-lowered_word : (marks : Marks) (total word i : ℕ) → 0 < i
    → bit_at (lowered_word marks total word) i ≡ bit_at word i
bit_at-lowered_word marks total word i above = lowered_above word i (nat_lt total marks.low) above

-- how a bit that some lanes raise goes with the word: as many raise it as before but for this lane, and if this lane
-- holds it, no other does
pub record Raising (i word : ℕ) (lane : Lane) (others : ℕ) : Type 0 where
  pub shown : others + bit_at lane.raised i ≡ bit_at word i
  pub alone : bit_at lane.held i ≡ 1 → others ≡ 0

-- it does if the lane puts a bit that it holds, in the word and in its own mask
shown-bit : (value word index new_word raised : ℕ) (lane : Lane) (i others : ℕ) → is_held lane index ≡ true
    → PutsBit value word index new_word → PutsBit value lane.raised index raised → Raising i word lane others
    → others + bit_at raised i ≡ bit_at new_word i
shown-bit value word index new_word raised lane i others held of_word of_lane raising =
    ⊎_elim
    (λ at. subst (λ n. others + bit_at raised n ≡ bit_at new_word n) (sym at)
    (omega (
      arith,
      of_word.here,
      of_lane.here,
      raising.alone (ap (bit_at lane.held) at ∙ is_held-set lane index held),
    )))
    (λ other. omega (arith, raising.shown, of_word.others i other, of_lane.others i other))
    (cases_eq i index)

pub shown-step : (step : LaneStep) (marks : Marks) (total word : ℕ) (lane : Lane) (i others : ℕ) → CanMake lane step
    → 0 < i → Raising i word lane others
    → others + bit_at (lane_after step lane).raised i ≡ bit_at (word_after step marks total word) i
shown-step (Add amount) marks total word lane i others may above raising =
    raising.shown ∙ sym (bit_at-raised_word marks (total + amount) word i above)
shown-step (Subtract amount) marks total word lane i others may above raising =
    raising.shown ∙ sym (bit_at-lowered_word marks (total - amount) word i above)
shown-step (SetBit index) marks total word lane i others may above raising =
    shown-bit 1 word index _ _ lane i others may (SetsBit-with_bit word index) (SetsBit-with_bit lane.raised index)
    raising
shown-step (ClearBit index) marks total word lane i others may above raising =
    shown-bit 0 word index _ _ lane i others may (ClearsBit-without_bit word index)
    (ClearsBit-without_bit lane.raised index) raising
shown-step Load marks total word lane i others may above raising = raising.shown

-- ---- the mark

-- a bit that is 1 is set, and one that is 0 is clear
one-set : (word i : ℕ) → bit_at word i ≡ 1 → is_set word i ≡ true
one-set word i is_one = grind (arith, nat_tests)

pub zero-clear : (word i : ℕ) → bit_at word i ≡ 0 → is_set word i ≡ false
zero-clear word i is_zero = grind (arith, nat_tests)

-- bit 0 once the total is above the high mark, and once it is below the low one
raised_set : (marks : Marks) (total word : ℕ) → marks.high < total → is_set (raised_word marks total word) 0 ≡ true
raised_set marks total word above =
    let yes : nat_lt marks.high total ≡ true = grind (arith, nat_tests) in
    rw yes (one-set (with_bit word 0) 0 (SetsBit-with_bit word 0).here)

lowered_clear : (marks : Marks) (total word : ℕ) → total < marks.low → is_set (lowered_word marks total word) 0 ≡ false
lowered_clear marks total word below =
    let yes : nat_lt total marks.low ≡ true = grind (arith, nat_tests) in
    rw yes (zero-clear (without_bit word 0) 0 (ClearsBit-without_bit word 0).here)

-- the word stays if the total passes no mark
not_raised : (marks : Marks) (total word : ℕ) → total ≤ marks.high → raised_word marks total word ≡ word
not_raised marks total word within =
    let no : nat_lt marks.high total ≡ false = grind (arith, nat_tests) in rw no refl

not_lowered : (marks : Marks) (total word : ℕ) → marks.low ≤ total → lowered_word marks total word ≡ word
not_lowered marks total word within =
    let no : nat_lt total marks.low ≡ false = grind (arith, nat_tests) in rw no refl

-- another bit put leaves bit 0
same_mark : (value word index new : ℕ) (lane : Lane) → is_held lane index ≡ true → PutsBit value word index new
    → is_set new 0 ≡ is_set word 0
same_mark value word index new lane held puts =
    let above : 0 < index = is_held-above lane index held in
    ap (λ n. eqb n 1) (puts.others 0 (λ at. absurd (omega (arith, at, above))))

-- a core state with the same marks and total, and with bit 0 as it was, has its mark as it was
marked_alike : (core : CoreState) (word : ℕ) → is_set word 0 ≡ is_set core.word 0 → MarkAgrees core
    → MarkAgrees (record core { word = word })
marked_alike core word same agree = record {
  above = λ high low. same ∙ agree.above high low;
  below = λ low high. same ∙ agree.below low high;
}

marked_above : (core : CoreState) (amount : ℕ) → MarkAgrees core
    → MarkAgrees (record core { total = core.total + amount; word = raised_word core.marks (core.total + amount) core.word })
marked_above core amount agree = record {
  above = λ high low. raised_set core.marks (core.total + amount) core.word high;
  below = λ low high. ap (λ word. is_set word 0) (not_raised core.marks (core.total + amount) core.word high)
      ∙ agree.below (omega (arith, low)) (omega (arith, high));
}

marked_below : (core : CoreState) (amount : ℕ) → MarkAgrees core
    → MarkAgrees (record core { total = core.total - amount; word = lowered_word core.marks (core.total - amount) core.word })
marked_below core amount agree = record {
  above = λ high low. ap (λ word. is_set word 0) (not_lowered core.marks (core.total - amount) core.word low)
      ∙ agree.above (omega (arith, high)) (omega (arith, low));
  below = λ low high. lowered_clear core.marks (core.total - amount) core.word low;
}

pub MarkAgrees-step : (step : LaneStep) (core : CoreState) (lane : Lane) → CanMake lane step → MarkAgrees core
    → MarkAgrees (record core {
      total = total_after step core.total;
      word = word_after step core.marks core.total core.word;
    })
MarkAgrees-step (Add amount) core lane may agree = marked_above core amount agree
MarkAgrees-step (Subtract amount) core lane may agree = marked_below core amount agree
MarkAgrees-step (SetBit index) core lane may agree =
    marked_alike core (with_bit core.word index)
    (same_mark 1 core.word index _ lane may (SetsBit-with_bit core.word index)) agree
MarkAgrees-step (ClearBit index) core lane may agree =
    marked_alike core (without_bit core.word index)
    (same_mark 0 core.word index _ lane may (ClearsBit-without_bit core.word index)) agree
MarkAgrees-step Load core lane may agree = agree

-- a word and a total are found again in the number that they were packed into, if the total fits its half
pub word_half-packed : (word total : ℕ) → total < 4294967296 → word_half (packed word total) ≡ word
word_half-packed word total fits = omega (arith, fits)

pub total_half-packed : (word total : ℕ) → total < 4294967296 → total_half (packed word total) ≡ total
total_half-packed word total fits = omega (arith, fits)

pub change_found-between : (step : LaneStep) (core : CoreState) → core.total < 4294967296
    → change_found step core.marks (value_found core)
    ≡ change_between core.word (word_after step core.marks core.total core.word)
change_found-between step core fits =
    let is_word : word_half (value_found core) ≡ core.word = word_half-packed core.word core.total fits in
    let is_total : total_half (value_found core) ≡ core.total = total_half-packed core.word core.total fits in
    ap (λ word. change_between word (word_after step core.marks (total_half (value_found core)) word)) is_word
    ∙ ap (λ total. change_between core.word (word_after step core.marks total core.word)) is_total

above_zero : (index : ℕ) → index ≢ 0 → 0 < index
above_zero index other = omega (arith, other)

pub LeavesRest-step : (step : LaneStep) (core : CoreState) (index : ℕ) (lane : Lane)
    → LeavesRest step core (core_after_step core index lane step)
LeavesRest-step (Add amount) core index lane =
    λ i other. bit_at-raised_word core.marks (core.total + amount) core.word i (above_zero i other)
LeavesRest-step (Subtract amount) core index lane =
    λ i other. bit_at-lowered_word core.marks (core.total - amount) core.word i (above_zero i other)
LeavesRest-step (SetBit bit) core index lane = refl
LeavesRest-step (ClearBit bit) core index lane = refl
LeavesRest-step Load core index lane = (refl, refl)
