-- What holds of each world holds at its beginning, and after each step and each ask that is none.
use Rattle.std.proofs.Common.{◌≡◌, ℕ, ◌≤◌, List, set, Some, None, slice_get, unwrap_or, ap, arith, length-set}
use Rattle.std.proofs.lemmas.List.{length-map}
use Rattle.ob_types.specs.Marks.{Marks}
use Rattle.ob_core.specs.World.{AccountsHold, owed_by, sum_owed, CoreState, greatest_room, start_fault, grant_of}
use Rattle.ob_core.specs.World.{new_lane, new_core}
use Rattle.ob_core.specs.Inside.{IsSound}
use Rattle.ob_core.specs.Step.{refusal_of, core_after_step, CanMake, FitsTotal}
use Rattle.ob_core.specs.Turn.{step_of, lane_after_nothing}
use Rattle.ob_core.specs.declared.ask.Ask.{Ask}
use Rattle.ob_core.specs.declared.ask.Turn.{Turn}
use Rattle.ob_core.specs.declared.lane.Lane.{Lane}
use Rattle.ob_core.specs.declared.lane_start.LaneStart.{LaneStart}
use Rattle.ob_core.specs.declared.lane_step.LaneStep.{LaneStep}
use Rattle.ob_core.specs.declared.lane_step.LaneStep.TheVariants.{Add, Subtract, SetBit, ClearBit, Load}
use Rattle.ob_core.proofs.AccountsLemmas.{AccountsHold-step, AccountsHold-alike, owed_by-le-total, total-le-room}
use Rattle.ob_core.proofs.LawLemmas.{IsAlike-nothing}
use Rattle.ob_core.proofs.BeginningLemmas.{AccountsHold-new, AreFine-no_fault}
use Rattle.ob_core.proofs.TurnLemmas.{HasTurn, can_make-step_of}

pub IsSound-new : (marks : Marks) (starts : List LaneStart) → marks.low ≤ marks.high → start_fault starts ≡ None
    → IsSound (new_core marks starts)
IsSound-new marks starts ordered none =
    let fine = AreFine-no_fault starts none in
    record {
      grant = grant_of marks starts;
      accounts = AccountsHold-new marks starts none;
      ordered = ordered;
      rooms_fit = fine.rooms_fit;
      some_lane = omega (arith, length-map starts new_lane, fine.some_lane);
      few_lanes = omega (arith, length-map starts new_lane, fine.few_lanes);
    }

-- another lane in the place of one leaves their number as it is
IsSound-put : (core : CoreState) (total word index : ℕ) (lane : Lane) (sound : IsSound core)
    → AccountsHold sound.grant
    (record { total = total; word = word; marks = core.marks; lanes = set core.lanes index lane })
    → IsSound (record { total = total; word = word; marks = core.marks; lanes = set core.lanes index lane })
IsSound-put core total word index lane sound accounts = record {
  grant = sound.grant;
  accounts = accounts;
  ordered = sound.ordered;
  rooms_fit = sound.rooms_fit;
  some_lane = omega (arith, length-set core.lanes index lane, sound.some_lane);
  few_lanes = omega (arith, length-set core.lanes index lane, sound.few_lanes);
}

pub IsSound-step : (core : CoreState) (index : ℕ) (lane : Lane) (step : LaneStep)
    → slice_get core.lanes index ≡ Some lane → CanMake lane step → IsSound core
    → IsSound (core_after_step core index lane step)
IsSound-step core index lane step is_lane may sound =
    IsSound-put core _ _ index _ sound
    (AccountsHold-step sound.grant core index lane step is_lane may sound.accounts)

pub IsSound-nothing : (core : CoreState) (index : ℕ) (lane : Lane) (ask : Ask)
    → slice_get core.lanes index ≡ Some lane → refusal_of lane ask ≡ None → step_of lane ask ≡ None → IsSound core
    → IsSound (record core { lanes = set core.lanes index (lane_after_nothing lane ask) })
IsSound-nothing core index lane ask is_lane accepted no_step sound =
    IsSound-put core core.total core.word index _ sound
    (AccountsHold-alike sound.grant core index lane _ is_lane (IsAlike-nothing lane ask accepted no_step)
    sound.accounts)

-- what the lanes owe fits a u32
pub sum_owed-fits : (core : CoreState) → IsSound core → sum_owed core.lanes ≤ greatest_room
sum_owed-fits core sound = omega
    (arith, total-le-room sound.grant core sound.accounts.bytes, sound.accounts.bytes.total, sound.rooms_fit)

-- so the total takes a step that a lane may make
pub FitsTotal-step : (core : CoreState) (index : ℕ) (lane : Lane) (step : LaneStep)
    → slice_get core.lanes index ≡ Some lane → CanMake lane step → IsSound core → FitsTotal step core.total
FitsTotal-step core index lane (Add amount) is_lane may sound =
    let after = IsSound-step core index lane (Add amount) is_lane may sound in
    omega (arith, total-le-room after.grant _ after.accounts.bytes, after.rooms_fit)
FitsTotal-step core index lane (Subtract amount) is_lane may sound =
    let all_of_it : owed_by lane ≡ amount = ap (λ debt. unwrap_or debt 0) may.0 in
    omega (arith, all_of_it, owed_by-le-total sound.grant core index lane sound.accounts.bytes is_lane)
FitsTotal-step core index lane (SetBit bit) is_lane may sound = tt
FitsTotal-step core index lane (ClearBit bit) is_lane may sound = tt
FitsTotal-step core index lane Load is_lane may sound = tt

-- ---- in a turn

pub IsSound-turn_step : (core : CoreState) (turn : Turn) (lane : Lane) (step : LaneStep) → HasTurn core turn lane
    → step_of lane turn.ask ≡ Some step → IsSound core → IsSound (core_after_step core turn.lane lane step)
IsSound-turn_step core turn lane step has is_step sound =
    IsSound-step core turn.lane lane step has.is_lane (can_make-step_of lane turn.ask step has.accepted is_step) sound

pub IsSound-turn_nothing : (core : CoreState) (turn : Turn) (lane : Lane) → HasTurn core turn lane
    → step_of lane turn.ask ≡ None → IsSound core
    → IsSound (record core { lanes = set core.lanes turn.lane (lane_after_nothing lane turn.ask) })
IsSound-turn_nothing core turn lane has no_step sound =
    IsSound-nothing core turn.lane lane turn.ask has.is_lane has.accepted no_step sound

pub FitsTotal-turn : (core : CoreState) (turn : Turn) (lane : Lane) (step : LaneStep) → HasTurn core turn lane
    → step_of lane turn.ask ≡ Some step → IsSound core → FitsTotal step core.total
FitsTotal-turn core turn lane step has is_step sound =
    FitsTotal-step core turn.lane lane step has.is_lane (can_make-step_of lane turn.ask step has.accepted is_step) sound
