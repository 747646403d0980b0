-- What a budget is opened with.
use Rattle.std.specs.Prelude.{ℕ, ◌≤◌, nat_lt, if◌then◌else◌, Result, Ok, Err}
use Rattle.ob_budget.specs.declared.fault.BoundsFault.{BoundsFault}
use Rattle.ob_budget.specs.declared.fault.BoundsFault.TheVariants.{LowAboveHigh, RoomTooGreat}

-- the most bytes that all seats together may hold, and the two marks of pressure
pub record BoundsValue : Type 0 where
  pub room : ℕ
  pub low : ℕ
  pub high : ℕ

-- the greatest room, in bytes: 2^62 - 1
abbrev pub greatest_room : ℕ
greatest_room = 4611686018427387903

-- the low mark is at most the high mark, and the room at most the greatest
pub record AreBounds (bounds : BoundsValue) : Type 0 where
  pub ordered : bounds.low ≤ bounds.high
  pub fits : bounds.room ≤ greatest_room

-- the bounds of three numbers, or the first reason why they are none
abbrev pub bounds_of : ℕ → ℕ → ℕ → Result BoundsValue BoundsFault
bounds_of room low high =
    if nat_lt high low then Err LowAboveHigh
    else if nat_lt greatest_room room then Err RoomTooGreat
    else Ok (record { room = room; low = low; high = high })
