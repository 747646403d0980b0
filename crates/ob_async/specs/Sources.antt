-- What a task waits for, by its name.
use Rattle.std.specs.Prelude.{ℕ}
use Rattle.std.specs.Arc.{arc_value}
use Rattle.ob_async.specs.declared.outbound.Outbound.{Outbound}
use Rattle.ob_async.specs.declared.outbound.IsWritable.{IsWritable}
use Rattle.ob_async.specs.declared.outbound.HasWork.{HasWork}
use Rattle.ob_async.specs.declared.outbound.OwnedIsWritable.{OwnedIsWritable}
use Rattle.ob_async.specs.declared.outbound.OwnedHasWork.{OwnedHasWork}

-- what its writers wait for
abbrev pub room_source : Outbound → ℕ
room_source outbound = outbound.room.id

-- what the task that sends waits for
abbrev pub work_source : Outbound → ℕ
work_source outbound = outbound.work.id

-- what this future waits for
abbrev pub room_source_of : IsWritable → ℕ
room_source_of future = room_source future.outbound.now

-- and this one
abbrev pub work_source_of : HasWork → ℕ
work_source_of future = work_source future.outbound.now

-- what these wait for, which keep the connection themselves
abbrev pub owned_room_source : OwnedIsWritable → ℕ
owned_room_source future = room_source (arc_value future.outbound)

abbrev pub owned_work_source : OwnedHasWork → ℕ
owned_work_source future = work_source (arc_value future.outbound)
