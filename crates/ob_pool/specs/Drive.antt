-- What a drive is given: numbers within their limits, and what its writers are to do. What is charged while a message
-- is handed to the buffer, what is wrong with plans before any of them is begun, and the faults of a drive.
use Rattle.std.specs.Prelude.{◌<◌, ◌≤◌, ℕ, Bool, not, List, position, Option, ◌+◌, max, [], ◌∷◌, sum_by, option_map}
use Rattle.std.specs.Prelude.{unwrap_or, suc, ◌||◌, ◌==◌, nat_lt, if◌then◌else◌, length, Some, None, ◌≡◌}
use Rattle.ob_types.specs.Limits.{greatest_overhead, greatest_unknown}
use Rattle.ob_types.specs.PendingSize.{readable_bytes}
use Rattle.ob_types.specs.Traits.{traits_of}
use Rattle.ob_types.specs.declared.command.Command.{Command}
use Rattle.ob_types.specs.declared.estimate.Estimate.{Estimate}
use Rattle.ob_types.specs.declared.message.Message.{Message}
use Rattle.ob_types.specs.declared.refusal.Refusal.TheVariants.{HistoryFull}
use Rattle.ob_core.specs.World.{greatest_room, most_lanes}
use Rattle.ob_history.specs.History.{History, most_records, new_history}
use Rattle.ob_transport.specs.Pass.{MayOffer}
use Rattle.ob_pool.specs.declared.config.Config.{Config}
use Rattle.ob_pool.specs.declared.fault.DriveFault.{DriveFault}
use Rattle.ob_pool.specs.declared.fault.DriveFault.TheVariants.{BadCount, BadPlan, TooMuchRoom, NoMemory, Stuck}
use Rattle.ob_pool.specs.declared.fault.DriveFault.TheVariants.{Refused, Transport, Finish}

-- the numbers of a drive are within their limits: overhead, unknown size and what a hand-off adds are at most 65535
-- bytes, the history may have 1 to 1048576 records, and a pass may offer something
pub record AreWithin (config : Config) : Type 0 where
  pub overhead : config.estimate.overhead ≤ greatest_overhead
  pub unknown : config.estimate.unknown ≤ greatest_unknown
  pub task : config.task ≤ greatest_overhead
  pub some_record : 0 < config.limit
  pub few_records : config.limit ≤ most_records
  pub offers : MayOffer config.limits

-- the history of a drive before its first call: its buffer has the marks and sizes of the drive, and it may hold as many
-- records as its limit
abbrev pub first_history : Config → History
first_history config = new_history (record { marks = config.marks; estimate = config.estimate }) config.limit

-- whether a command may stand in a plan: a write, a flush, a cancellation, a user bit, or marks that are set
abbrev pub is_planned : Command → Bool
is_planned command = (traits_of command).planned

-- the first step of a plan whose command may not stand there, if there is one
abbrev pub bad_step : List Command → Option ℕ
bad_step plan = position (λ command. not (is_planned command)) plan

-- what a message is charged: its estimate, and what each hand-off adds
abbrev pub charge_of : Estimate → ℕ → Message → ℕ
charge_of estimate task message = readable_bytes estimate message + task

-- what a command is charged: a write its message, and any other nothing
abbrev pub charge_for : Estimate → ℕ → Command → ℕ
charge_for estimate task command = unwrap_or (option_map (charge_of estimate task) (traits_of command).message) 0

-- the room that a plan needs: the greatest charge of its commands
abbrev pub room_of : Estimate → ℕ → List Command → ℕ
room_of estimate task [] = 0
room_of estimate task (command ∷ plan) = max (charge_for estimate task command) (room_of estimate task plan)

-- the room that plans need together
abbrev pub rooms_of : Estimate → ℕ → List (List Command) → ℕ
rooms_of estimate task plans = sum_by (room_of estimate task) plans

-- whether there is no writer, or more than may have a lane each
abbrev pub is_bad_count : List (List Command) → Bool
is_bad_count plans = (length plans == 0) || nat_lt most_lanes (length plans)

-- the writer's fault where its plan has a bad step, and else another
abbrev pub fault_at : ℕ → Option ℕ → Option DriveFault → Option DriveFault
fault_at writer (Some step) other = Some (BadPlan writer step)
fault_at writer None other = other

-- the first bad step of plans, whose writers are numbered from this number on
abbrev pub bad_plan_from : ℕ → List (List Command) → Option DriveFault
bad_plan_from writer [] = None
bad_plan_from writer (plan ∷ plans) = fault_at writer (bad_step plan) (bad_plan_from (suc writer) plans)

-- the fault of plans that need more room together than lanes may have
abbrev pub room_fault : Estimate → ℕ → List (List Command) → Option DriveFault
room_fault estimate task plans = if nat_lt greatest_room (rooms_of estimate task plans) then Some TooMuchRoom else None

-- the first of two faults
abbrev pub first_of : Option DriveFault → Option DriveFault → Option DriveFault
first_of (Some fault) other = Some fault
first_of None other = other

-- the first fault of plans, or none: a bad number of them, then the first bad step, then too much room
abbrev pub plans_fault : Estimate → ℕ → List (List Command) → Option DriveFault
plans_fault estimate task plans =
    if is_bad_count plans then Some BadCount else first_of (bad_plan_from 0 plans) (room_fault estimate task plans)

-- the number of a fault
abbrev pub number_of : DriveFault → ℕ
number_of BadCount = 1
number_of (BadPlan writer step) = 2
number_of TooMuchRoom = 3
number_of NoMemory = 4
number_of (Stuck writer) = 5
number_of (Refused writer refusal) = 6
number_of (Transport fault) = 7
number_of (Finish fault) = 8

-- if a fault names a writer, it names one of *n*, who are numbered from 0 on
abbrev pub NamesOneOf : ℕ → DriveFault → Type 0
NamesOneOf writers BadCount = Unit {0}
NamesOneOf writers (BadPlan writer step) = writer < writers
NamesOneOf writers TooMuchRoom = Unit {0}
NamesOneOf writers NoMemory = Unit {0}
NamesOneOf writers (Stuck writer) = writer < writers
NamesOneOf writers (Refused writer refusal) = writer < writers
NamesOneOf writers (Transport fault) = Unit {0}
NamesOneOf writers (Finish fault) = Unit {0}

-- a fault comes of the work of *n* writers, and not of their plans: it names none but one of them, and if a writer
-- was refused, the history was full
abbrev pub ComesOfWork : ℕ → DriveFault → Type 0
ComesOfWork writers BadCount = ⊥
ComesOfWork writers (BadPlan writer step) = ⊥
ComesOfWork writers TooMuchRoom = ⊥
ComesOfWork writers NoMemory = Unit {0}
ComesOfWork writers (Stuck writer) = writer < writers
ComesOfWork writers (Refused writer refusal) = (refusal ≡ HistoryFull) × (writer < writers)
ComesOfWork writers (Transport fault) = Unit {0}
ComesOfWork writers (Finish fault) = Unit {0}
