-- What each step and each ask that is none keeps, each turn keeps.
use Rattle.std.proofs.Common.{◌≡◌, ℕ, List, [], ◌∷◌, set, Option, Some, None, slice_get, refl}
use Rattle.ob_core.specs.Step.{refusal_of, core_after_step, CanMake}
use Rattle.ob_core.specs.Turn.{core_after_all, step_of, lane_after_nothing, core_after, core_unless, core_after_ask}
use Rattle.ob_core.specs.Turn.{core_after_ask_at}
use Rattle.ob_core.specs.World.{CoreState}
use Rattle.ob_core.specs.declared.ask.Ask.{Ask}
use Rattle.ob_core.specs.declared.ask.Turn.{Turn}
use Rattle.ob_core.specs.declared.ask_fault.AskFault.{AskFault}
use Rattle.ob_core.specs.declared.lane.Lane.{Lane}
use Rattle.ob_core.specs.declared.lane_step.LaneStep.{LaneStep}
use Rattle.ob_core.proofs.TurnLemmas.{can_make-step_of}

-- a fact of core states that each step of this lane keeps, and each ask that is no step
pub record IsKept (P : CoreState → Type 0) (core : CoreState) (index : ℕ) (ask : Ask) : Type 0 where
  pub by_step : (lane : Lane) (step : LaneStep) → slice_get core.lanes index ≡ Some lane → CanMake lane step
      → P (core_after_step core index lane step)
  pub by_nothing : (lane : Lane) → slice_get core.lanes index ≡ Some lane → refusal_of lane ask ≡ None
      → step_of lane ask ≡ None → P (record core { lanes = set core.lanes index (lane_after_nothing lane ask) })

kept_by_ask : (P : CoreState → Type 0) (core : CoreState) (index : ℕ) (lane : Lane) (ask : Ask) (step : Option LaneStep)
    → IsKept P core index ask → slice_get core.lanes index ≡ Some lane → refusal_of lane ask ≡ None
    → step_of lane ask ≡ step → P (core_after_ask core index lane ask step)
kept_by_ask P core index lane ask None kept is_lane accepted is_step = kept.by_nothing lane is_lane accepted is_step
kept_by_ask P core index lane ask (Some step) kept is_lane accepted is_step =
    kept.by_step lane step is_lane (can_make-step_of lane ask step accepted is_step)

kept_unless : (P : CoreState → Type 0) (core : CoreState) (index : ℕ) (lane : Lane) (ask : Ask)
    (fault : Option AskFault)
    → IsKept P core index ask → P core → slice_get core.lanes index ≡ Some lane → refusal_of lane ask ≡ fault
    → P (core_unless fault core index lane ask)
kept_unless P core index lane ask None kept before is_lane is_fault =
    kept_by_ask P core index lane ask (step_of lane ask) kept is_lane is_fault refl
kept_unless P core index lane ask (Some fault) kept before is_lane is_fault = before

kept_at : (P : CoreState → Type 0) (core : CoreState) (index : ℕ) (ask : Ask) (lane : Option Lane)
    → IsKept P core index ask → P core → slice_get core.lanes index ≡ lane → P (core_after_ask_at core index lane ask)
kept_at P core index ask None kept before is_lane = before
kept_at P core index ask (Some lane) kept before is_lane =
    kept_unless P core index lane ask (refusal_of lane ask) kept before is_lane refl

pub kept_by_turn : (P : CoreState → Type 0) (core : CoreState) (turn : Turn) → IsKept P core turn.lane turn.ask
    → P core → P (core_after core turn)
kept_by_turn P core turn kept before =
    kept_at P core turn.lane turn.ask (slice_get core.lanes turn.lane) kept before refl

pub kept_by_all : (P : CoreState → Type 0)
    → ((core : CoreState) (turn : Turn) → P core → IsKept P core turn.lane turn.ask)
    → (turns : List Turn) (core : CoreState) → P core → P (core_after_all core turns)
kept_by_all P kept [] core before = before
kept_by_all P kept (turn ∷ turns) core before =
    kept_by_all P kept turns (core_after core turn) (kept_by_turn P core turn (kept core turn before) before)
