-- What a lane does at an ask that is not refused.
use Rattle.std.proofs.Common.{◌≡◌, ℕ, zero, suc, ◌<◌, ◌≤◌, Bool, true, false, not, eqb, [], ◌∷◌, nat_lt, is_some}
use Rattle.std.proofs.Common.{List, Option, Some, None, refl, sym, ap, subst, ◌∙◌, slice_get, unwrap_or, arith}
use Rattle.std.proofs.lemmas.Bool.Decides.{nat_tests}
use Rattle.ob_core.specs.World.{owed_by, first_fault, CoreState}
use Rattle.ob_core.specs.Step.{is_held, refusal_of, CanMake}
use Rattle.ob_core.specs.Turn.{charge_step, discharge_step, step_of, lane_after_nothing}
use Rattle.ob_core.specs.declared.ask.Ask.{Ask}
use Rattle.ob_core.specs.declared.ask.Ask.TheVariants.{Charge, Discharge, Bit, Word, Total, Go}
use Rattle.ob_core.specs.declared.ask.Turn.{Turn}
use Rattle.ob_core.specs.declared.ask_fault.AskFault.TheVariants.{NoRoom, Owing, NotHeld}
use Rattle.ob_core.specs.declared.lane.Lane.{Lane}
use Rattle.ob_core.specs.declared.lane_step.LaneStep.{LaneStep}
use Rattle.ob_core.specs.declared.lane_step.LaneStep.TheVariants.{Add, Subtract, SetBit, ClearBit, Load}

-- a charge that is not refused is by a lane without a debt, within its room
pub accepted_charge : (debt : Option ℕ) (room amount : ℕ)
    → first_fault ((is_some debt, Owing) ∷ (nat_lt room amount, NoRoom) ∷ []) ≡ None → (debt ≡ None) × (amount ≤ room)
accepted_charge None room amount accepted = (refl, grind (arith, nat_tests))
accepted_charge (Some owed) room amount accepted = absurd (cc)

-- the step of a charge
pub charge_step-some : (amount : ℕ) (step : LaneStep) → charge_step amount ≡ Some step
    → (0 < amount) × (Add amount ≡ step)
charge_step-some zero step some_step = absurd (cc)
charge_step-some (suc amount) step some_step =
    let not_zero : eqb (suc amount) 0 ≡ false = grind (arith, nat_tests) in (omega arith, cc)

-- the step of a discharge
pub discharge_step-some : (debt : Option ℕ) (step : LaneStep) → discharge_step debt ≡ Some step
    → (amount : ℕ) × (debt ≡ Some amount) × (0 < amount) × (Subtract amount ≡ step)
discharge_step-some None step some_step = absurd (cc)
discharge_step-some (Some zero) step some_step = absurd (cc)
discharge_step-some (Some (suc amount)) step some_step =
    let not_zero : eqb (suc amount) 0 ≡ false = grind (arith, nat_tests) in (suc amount, refl, omega arith, cc)

-- a bit that is not refused is held
pub accepted_bit : (held : Bool) → first_fault ((not held, NotHeld) ∷ []) ≡ None → held ≡ true
accepted_bit true accepted = refl
accepted_bit false accepted = absurd (cc)

-- a step that follows an ask that is not refused is one that the lane may make
pub can_make-step_of : (lane : Lane) (ask : Ask) (step : LaneStep) → refusal_of lane ask ≡ None
    → step_of lane ask ≡ Some step → CanMake lane step
can_make-step_of lane (Charge amount) step accepted some_step =
    let within = accepted_charge lane.debt lane.room amount accepted in
    let is_add = charge_step-some amount step some_step in
    subst (CanMake lane) is_add.1 (within.0, is_add.0, within.1)
can_make-step_of lane Discharge step accepted some_step =
    let is_subtract = discharge_step-some lane.debt step some_step in
    subst (CanMake lane) is_subtract.3 (is_subtract.1, is_subtract.2)
can_make-step_of lane (Bit index true) step accepted some_step =
    let is_clear : ClearBit index ≡ step = cc in
    subst (CanMake lane) is_clear (accepted_bit (is_held lane index) accepted)
can_make-step_of lane (Bit index false) step accepted some_step =
    let is_set : SetBit index ≡ step = cc in
    subst (CanMake lane) is_set (accepted_bit (is_held lane index) accepted)
can_make-step_of lane Word step accepted some_step = let is_load : Load ≡ step = cc in subst (CanMake lane) is_load tt
can_make-step_of lane Total step accepted some_step = let is_load : Load ≡ step = cc in subst (CanMake lane) is_load tt
can_make-step_of lane Go step accepted some_step = absurd (cc)

-- a lane has its turn, and its ask is not refused
pub record HasTurn (core : CoreState) (turn : Turn) (lane : Lane) : Type 0 where
  pub is_lane : slice_get core.lanes turn.lane ≡ Some lane
  pub accepted : refusal_of lane turn.ask ≡ None

-- it has if it is found among the core's lanes, and no refusal is
pub HasTurn-found : (core : CoreState) (turn : Turn) {lane : Lane} {lanes : List Lane}
    → Some lane ≡ slice_get lanes turn.lane → lanes ≡ core.lanes → None ≡ refusal_of lane turn.ask
    → HasTurn core turn lane
HasTurn-found core turn {lane} {lanes} found same accepted = record {
  is_lane = sym (found ∙ ap (λ (ls : List Lane). slice_get ls turn.lane) same);
  accepted = sym accepted;
}

-- an ask that is no step leaves what the lane owes as it is: it owes 0 before and after
charge_step-none : (amount : ℕ) → charge_step amount ≡ None → amount ≡ 0
charge_step-none zero no_step = refl
charge_step-none (suc amount) no_step =
    let not_zero : eqb (suc amount) 0 ≡ false = grind (arith, nat_tests) in absurd (cc)

discharge_step-none : (debt : Option ℕ) → discharge_step debt ≡ None → 0 ≡ unwrap_or debt 0
discharge_step-none None no_step = refl
discharge_step-none (Some zero) no_step = refl
discharge_step-none (Some (suc amount)) no_step =
    let not_zero : eqb (suc amount) 0 ≡ false = grind (arith, nat_tests) in absurd (cc)

pub owed_by-lane_after_nothing : (lane : Lane) (ask : Ask) → refusal_of lane ask ≡ None → step_of lane ask ≡ None
    → owed_by (lane_after_nothing lane ask) ≡ owed_by lane
owed_by-lane_after_nothing lane (Charge amount) accepted no_step =
    let no_debt : owed_by lane ≡ 0 =
    ap (λ debt. unwrap_or debt 0) (accepted_charge lane.debt lane.room amount accepted).0 in
    omega (arith, no_debt, charge_step-none amount no_step)
owed_by-lane_after_nothing lane Discharge accepted no_step = discharge_step-none lane.debt no_step
owed_by-lane_after_nothing lane (Bit index writable) accepted no_step = refl
owed_by-lane_after_nothing lane Word accepted no_step = refl
owed_by-lane_after_nothing lane Total accepted no_step = refl
owed_by-lane_after_nothing lane Go accepted no_step = refl

-- and it leaves the rest of the lane
pub rest-lane_after_nothing : (lane : Lane) (ask : Ask)
    → lane_after_nothing lane ask ≡ record lane { debt = (lane_after_nothing lane ask).debt }
rest-lane_after_nothing lane (Charge amount) = refl
rest-lane_after_nothing lane Discharge = refl
rest-lane_after_nothing lane (Bit index writable) = refl
rest-lane_after_nothing lane Word = refl
rest-lane_after_nothing lane Total = refl
rest-lane_after_nothing lane Go = refl
