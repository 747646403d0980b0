-- One turn of a schedule: a refused ask, one core step, or nothing. And the run: its turns one after the other.
use Rattle.std.specs.List.{filter_map}
use Rattle.std.specs.Prelude.{ℕ, ◌==◌, Option, Some, None, slice_get, slice_set, if◌then◌else◌, ◌≡◌, unwrap_or, List}
use Rattle.std.specs.Prelude.{[], ◌∷◌}
use Rattle.ob_types.specs.Marks.{change_between}
use Rattle.ob_types.specs.declared.reply.Change.{Change}
use Rattle.ob_types.specs.declared.reply.Change.TheVariants.{Unwritable, Writable}
use Rattle.ob_core.specs.Step.{refusal_of, refusal_at, core_after_step, IsCoreStep}
use Rattle.ob_core.specs.World.{CoreState, WorldState}
use Rattle.ob_core.specs.declared.ask.Ask.{Ask}
use Rattle.ob_core.specs.declared.ask.Ask.TheVariants.{Charge, Discharge, Bit, Word, Total, Go}
use Rattle.ob_core.specs.declared.ask.Turn.{Turn}
use Rattle.ob_core.specs.declared.ask_fault.AskFault.{AskFault}
use Rattle.ob_core.specs.declared.event.Event.{Event}
use Rattle.ob_core.specs.declared.event.Event.TheVariants.{Added, Subtracted, BitSet, BitCleared, ReadWord, ReadTotal}
use Rattle.ob_core.specs.declared.event.Event.TheVariants.{Nothing, Refused}
use Rattle.ob_core.specs.declared.lane.Lane.{Lane}
use Rattle.ob_core.specs.declared.lane_step.LaneStep.{LaneStep}
use Rattle.ob_core.specs.declared.lane_step.LaneStep.TheVariants.{Add, Subtract, SetBit, ClearBit, Load}

-- the step of a charge, none if it is 0
abbrev pub charge_step : ℕ → Option LaneStep
charge_step amount = if amount == 0 then None else Some (Add amount)

-- the step of the discharge of a debt, none if that is 0
abbrev pub discharge_step : Option ℕ → Option LaneStep
discharge_step None = None
discharge_step (Some amount) = if amount == 0 then None else Some (Subtract amount)

-- the step that a lane makes at an ask that is not refused, none at a charge of 0 and at its discharge
abbrev pub step_of : Lane → Ask → Option LaneStep
step_of lane (Charge amount) = charge_step amount
step_of lane Discharge = discharge_step lane.debt
step_of lane (Bit index writable) = Some (if writable then ClearBit index else SetBit index)
step_of lane Word = Some Load
step_of lane Total = Some Load
step_of lane Go = None

-- the lane after an ask that is no step: after a charge it owes, after a discharge it does not
abbrev pub lane_after_nothing : Lane → Ask → Lane
lane_after_nothing lane (Charge amount) = record lane { debt = Some amount }
lane_after_nothing lane Discharge = record lane { debt = None }
lane_after_nothing lane (Bit index writable) = lane
lane_after_nothing lane Word = lane
lane_after_nothing lane Total = lane
lane_after_nothing lane Go = lane

-- the event of the step that an ask is
abbrev pub event_of_ask : Ask → Event
event_of_ask (Charge amount) = Added
event_of_ask Discharge = Subtracted
event_of_ask (Bit index writable) = if writable then BitCleared else BitSet
event_of_ask Word = ReadWord
event_of_ask Total = ReadTotal
event_of_ask Go = Nothing

-- the event of an ask that is not refused, by its step
abbrev pub accepted_event : Ask → Option LaneStep → Event
accepted_event ask None = Nothing
accepted_event ask (Some step) = event_of_ask ask

-- the event of an ask, by its refusal
abbrev pub event_unless : Option AskFault → Ask → Option LaneStep → Event
event_unless (Some fault) ask step = Refused fault
event_unless None ask step = accepted_event ask step

-- the step of a lane that may not be there
abbrev pub step_at : Option Lane → Ask → Option LaneStep
step_at None ask = None
step_at (Some lane) ask = step_of lane ask

-- the event of a turn
abbrev pub event_of : CoreState → Turn → Event
event_of core turn =
    let lane = slice_get core.lanes turn.lane in
    event_unless (refusal_at lane turn.ask) turn.ask (step_at lane turn.ask)

-- the core state after an ask that is not refused
abbrev pub core_after_ask : CoreState → ℕ → Lane → Ask → Option LaneStep → CoreState
core_after_ask core index lane ask None =
    record core { lanes = slice_set core.lanes index (lane_after_nothing lane ask) }
core_after_ask core index lane ask (Some step) = core_after_step core index lane step

-- the core state after an ask, by its refusal: a refused ask changes nothing
abbrev pub core_unless : Option AskFault → CoreState → ℕ → Lane → Ask → CoreState
core_unless (Some fault) core index lane ask = core
core_unless None core index lane ask = core_after_ask core index lane ask (step_of lane ask)

-- the core state after an ask to a lane that may not be there
abbrev pub core_after_ask_at : CoreState → ℕ → Option Lane → Ask → CoreState
core_after_ask_at core index None ask = core
core_after_ask_at core index (Some lane) ask = core_unless (refusal_of lane ask) core index lane ask

-- the core state after a turn
abbrev pub core_after : CoreState → Turn → CoreState
core_after core turn = core_after_ask_at core turn.lane (slice_get core.lanes turn.lane) turn.ask

-- the change of a turn, read off the word before and after it
abbrev pub change_of : CoreState → Turn → Option Change
change_of core turn = change_between core.word (core_after core turn).word

-- the lane with this index owes 0 before and after, and nothing changes but whether that is a debt of 0 or none
pub record OwesNothing (old : CoreState) (index : ℕ) (new : CoreState) : Type 0 where
  pub lane : Lane
  pub debt : Option ℕ
  pub is_lane : slice_get old.lanes index ≡ Some lane
  pub owed_none : unwrap_or lane.debt 0 ≡ 0
  pub owes_none : unwrap_or debt 0 ≡ 0
  pub after : new ≡ record old { lanes = slice_set old.lanes index (record lane { debt = debt }) }

-- a turn of the lane with this index that had this event led from the old core state to the new one
abbrev pub IsOneStep : CoreState → ℕ → Event → CoreState → Type 0
IsOneStep old index Added new = (amount : ℕ) × IsCoreStep old index (Add amount) new
IsOneStep old index Subtracted new = (amount : ℕ) × IsCoreStep old index (Subtract amount) new
IsOneStep old index BitSet new = (bit : ℕ) × IsCoreStep old index (SetBit bit) new
IsOneStep old index BitCleared new = (bit : ℕ) × IsCoreStep old index (ClearBit bit) new
IsOneStep old index ReadWord new = IsCoreStep old index Load new
IsOneStep old index ReadTotal new = IsCoreStep old index Load new
IsOneStep old index Nothing new = OwesNothing old index new
IsOneStep old index (Refused fault) new = new ≡ old

-- the core state after all turns
abbrev pub core_after_all : CoreState → List Turn → CoreState
core_after_all core [] = core
core_after_all core (turn ∷ turns) = core_after_all (core_after core turn) turns

-- the change of the last turn; if there is no turn, the one before
abbrev pub last_change_after : WorldState → List Turn → Option Change
last_change_after world [] = world.last_change
last_change_after world (turn ∷ turns) =
    last_change_after (record { core = core_after world.core turn; last_change = change_of world.core turn }) turns

-- what each turn returns: its event and its change
abbrev pub answers_of : CoreState → List Turn → List (Event × Option Change)
answers_of core [] = []
answers_of core (turn ∷ turns) = (event_of core turn, change_of core turn) ∷ answers_of (core_after core turn) turns

-- the changes among the answers, in order
abbrev pub changes_in : List (Event × Option Change) → List Change
changes_in answers = filter_map (λ answer. answer.1) answers

-- the other change
abbrev pub opposite : Change → Change
opposite Unwritable = Writable
opposite Writable = Unwritable

-- the changes go to and fro, and begin with this one
abbrev pub AlternateFrom : Change → List Change → Type 0
AlternateFrom first [] = Unit {0}
AlternateFrom first (change ∷ changes) = (change ≡ first) × AlternateFrom (opposite first) changes
