use Rattle.std.proofs.Common.{◌≡◌, ◌+◌, ◌≤◌, ◌++◌, drop, length, map, take}
use Rattle.std.specs.Prelude.{vec_capacity, vec_len}
use Rattle.std.specs.List.{All, range_with_len}
use Rattle.ob_shared.specs.Calls.{new_share}
use Rattle.ob_pool.specs.Drive.{room_of, rooms_of}
use Rattle.ob_pool.specs.Threads.{IsRoomy, asked, work_from, room_for}
use Rattle.ob_pool.proofs.opening.jobs_of.Given as goal

abbrev pub invariant-loop-plan : goal.invariant-loop-plan
invariant-loop-plan g l =
    let rest = l.plan-iterator.rest.items in
    let estimate = l.fn.checked.estimate in
    let task = l.fn.checked.task in
    record {
      asked : map asked l.jobs.items ++ work_from (vec_len l.jobs) rest ≡ work_from 0 l.fn.checked.plans;
      shares : l.shares.rest.items ≡ map new_share (range_with_len (vec_len l.jobs) (length rest));
      ahead : take (length rest) (drop (vec_len l.jobs) l.rooms) ≡ map (room_of estimate task) rest;
      roomy : All (IsRoomy estimate task) l.jobs.items;
      room : room_for l.jobs.items + rooms_of estimate task rest ≡ l.fn.checked.room;
      places : vec_len l.jobs + length rest ≤ vec_capacity l.jobs;
    }
