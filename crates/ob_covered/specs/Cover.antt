-- How a seat covers the bytes of one connection.
use Rattle.std.specs.Prelude.{◌≡◌, ◌≤◌, ◌<◌, ◌+◌, ◌-◌, ℕ, Option, Some, None}
use Rattle.ob_budget.specs.Account.{HoldsAlike, first_account, kept_account, given_account, SeatValue}
use Rattle.ob_budget.specs.Bounds.{BoundsValue}
use Rattle.ob_budget.specs.Calls.{IsRefused, most_tries}
use Rattle.ob_budget.specs.declared.fault.RaiseFault.{RaiseFault}
use Rattle.ob_budget.specs.declared.pressure.Pressure.{Pressure}
use Rattle.ob_budget.specs.declared.pressure.Pressure.TheVariants.{Began, Ended}

-- a seat, and by how many bytes more than it lacks it is raised at once, if they are to be had
pub record CoverValue : Type 0 where
  pub seat : SeatValue
  pub quantum : ℕ

-- how often this tells that pressure began
abbrev pub told_began : Option Pressure → ℕ
told_began None = 0
told_began (Some Began) = 1
told_began (Some Ended) = 0

-- how often this tells that pressure ended
abbrev pub told_ended : Option Pressure → ℕ
told_ended None = 0
told_ended (Some Began) = 0
told_ended (Some Ended) = 1

-- the seat is at its budget, for as many seats, and has told just of this turn of pressure
pub record Tells (old : CoverValue) (told : Option Pressure) (new : CoverValue) : Type 0 where
  pub quantum : new.quantum ≡ old.quantum
  pub budget : new.seat.budget ≡ old.seat.budget
  pub seats : new.seat.account.seats ≡ old.seat.account.seats
  pub began : new.seat.account.began ≡ old.seat.account.began + told_began told
  pub ended : new.seat.account.ended ≡ old.seat.account.ended + told_ended told

-- the seat holds less than is needed, and a raise by what it lacks was refused; it holds what it held
pub record IsShort (needed : ℕ) (fault : RaiseFault) (old new : CoverValue) : Type 0 where
  pub lacks : old.seat.account.held < needed
  pub before : SeatValue
  pub tried : HoldsAlike old.seat.account before.account
  pub refused : IsRefused (needed - old.seat.account.held) fault before new.seat
  pub alike : HoldsAlike old.seat.account new.seat.account

-- to hold this many bytes a cover takes no more than it lacks and a quantum, and nothing if it holds them already
pub record TakesSparingly (needed : ℕ) (old new : CoverValue) : Type 0 where
  pub enough : needed ≤ old.seat.account.held → new ≡ old
  pub lacking : old.seat.account.held < needed → new.seat.account.held ≤ needed + old.quantum

-- unless the call lost too many exchanges to others, the seat holds at most this
abbrev pub HoldsAtMost : ℕ → CoverValue → CoverValue → Type 0
HoldsAtMost most old new =
    new.seat.account.lost < old.seat.account.lost + most_tries → new.seat.account.held ≤ most

-- the cover that a budget is opened with: it is for all seats, and holds nothing
pub record IsFirst (bounds : BoundsValue) (quantum : ℕ) (cover : CoverValue) : Type 0 where
  pub quantum_is : cover.quantum ≡ quantum
  pub bounds_are : cover.seat.budget.bounds ≡ bounds
  pub account : cover.seat.account ≡ first_account bounds

-- what is left of a cover that gives this many seats away
abbrev pub left_of : ℕ → CoverValue → CoverValue
left_of seats cover = record {
  seat = record { budget = cover.seat.budget; account = kept_account seats cover.seat.account };
  quantum = cover.quantum;
}

-- the cover that gets them: at the same budget and with the same quantum, and it holds nothing
abbrev pub given_by : ℕ → CoverValue → CoverValue
given_by seats cover = record {
  seat = record { budget = cover.seat.budget; account = given_account seats cover.seat.account };
  quantum = cover.quantum;
}
