use Rattle.std.proofs.Common.{◌/◌, ap, arith, rules}
use Rattle.std.specs.Prelude.{vec_len}
use Rattle.std.proofs.lemmas.Result.{IfOk-weaker}
use Rattle.ob_lanes.specs.Run.{WordsValue}
use Rattle.ob_pool.specs.Threads.{IsNumbered, IsRoomy, room_for}
use Rattle.ob_pool.proofs.Counted.{both_counted}
use Rattle.ob_pool.proofs.Jobs.{back_some, both_handed_done, front_some, half_within, parts_alike, parts_done}
use Rattle.ob_pool.proofs.Jobs.{rooms_of_parts, rooms_within, splits}
use Rattle.ob_pool.proofs.threads.jobs.+run.Goals as goal

pub run_all-room_for-requires : goal.run_all-room_for-requires
run_all-room_for-requires g t c =
    let parts = rooms_of_parts (c.len-2.result / 2) c.args.writers.jobs.items c.split_off.new.self.items c.in-Ok.others.items
    c.in-Ok.ensures.items c.in-Ok.ensures.tail in
    omega (
      arith,
      parts,
      ap room_for c.deref.ensures.value,
      c.requires.room,
      c.room-most.ensures.value,
      c.room-most.type_inv,
    )

pub run_all-unreachable-requires : goal.run_all-unreachable-requires
run_all-unreachable-requires g t c =
    let parts = rooms_of_parts (c.len-2.result / 2) c.args.writers.jobs.items c.split_off.new.self.items c.in-Ok.others.items
    c.in-Ok.ensures.items c.in-Ok.ensures.tail in
    absurd (cc (c.in-Err.ensures.split (splits c.args.writers.lane.lane c.room_for.result
    (omega (arith, parts, ap room_for c.deref.ensures.value, c.room_for.ensures, c.requires.room)))))

pub run_all-both_halves-requires-clause-ready : goal.run_all-both_halves-requires-clause-ready
run_all-both_halves-requires-clause-ready g t c = λ κs lives.
    let parts = rooms_of_parts (c.len-2.result / 2) c.args.writers.jobs.items c.split_off.new.self.items c.in-Ok.others.items
    c.in-Ok.ensures.items c.in-Ok.ensures.tail in
    let shares = c.in-Ok-split.ensures.parts in
    record {
      words = search rules;
      roomy = (parts_alike (IsRoomy c.args.context.now.estimate c.args.context.now.task)
          (c.len-2.result / 2) c.args.writers.jobs.items c.split_off.new.self.items c.in-Ok.others.items
          c.in-Ok.ensures.items c.in-Ok.ensures.tail c.requires.roomy).0;
      numbered = (parts_alike (IsNumbered c.args.context.now.writers)
          (c.len-2.result / 2) c.args.writers.jobs.items c.split_off.new.self.items c.in-Ok.others.items
          c.in-Ok.ensures.items c.in-Ok.ensures.tail c.requires.numbered).0;
      room = omega (
        arith,
        parts,
        ap room_for c.deref.ensures.value,
        c.room_for.ensures,
        c.requires.room,
        shares.rooms,
        shares.second_room,
      );
      whole = search rules;
    }

pub run_all-both_halves-requires-clause-other_ready : goal.run_all-both_halves-requires-clause-other_ready
run_all-both_halves-requires-clause-other_ready g t c = λ κs lives.
    let half = c.len-2.result / 2 in
    let jobs = c.args.writers.jobs.items in
    let front = c.split_off.new.self.items in
    let back = c.in-Ok.others.items in
    let items = c.in-Ok.ensures.items in
    let tail = c.in-Ok.ensures.tail in
    let writers = c.args.context.now.writers in
    record {
      words = search rules;
      roomy = (parts_alike (IsRoomy c.args.context.now.estimate c.args.context.now.task) half jobs front back items tail c.requires.roomy).1;
      numbered = (parts_alike (IsNumbered writers) half jobs front back items tail c.requires.numbered).1;
      room = search rules;
      whole = search rules;
    }

pub run_all-returns : goal.run_all-returns
run_all-returns g t c = record {
  lane_back = search rules;
  done =
      IfOk-weaker c.both_halves.result.dones _ _
      (λ dones done. parts_done (c.len-2.result / 2) c.args.writers.jobs.items c.split_off.new.self.items c.in-Ok.others.items dones.items
      c.in-Ok.ensures.items c.in-Ok.ensures.tail done) c.both_halves.ensures.done;
  counted = c.both_halves.ensures.counted;
  fault = search rules;
}

pub both_halves-returns-clause-done : goal.both_halves-returns-clause-done
both_halves-returns-clause-done g t c =
    IfOk-weaker c.both_handed.result _ _
    (λ all is. both_handed_done c.join-ended.result.0.dones c.join-ended.result.1.dones (λ dones. dones.items)
    c.args.front.jobs.items c.args.back.jobs.items all.items is c.join-ended.ensures.first.done
    c.join-ended.ensures.second.done) c.both_handed.ensures.first

pub both_halves-returns-clause-counted : goal.both_halves-returns-clause-counted
both_halves-returns-clause-counted g t c =
    IfOk-weaker c.both_handed.result _ _
    (λ all is. both_counted c.args.context.now.writers c.join-ended.result.0.dones c.join-ended.result.1.dones
    (λ dones. dones.items) all.items c.join-ended.result.0.counts c.join-ended.result.1.counts c.add_all.new.self is
    c.join-ended.ensures.first.counted c.join-ended.ensures.second.counted c.add_all.ensures) c.both_handed.ensures.first

pub both_halves-returns-clause-fault : goal.both_halves-returns-clause-fault
both_halves-returns-clause-fault g t c =
    c.both_handed.ensures.fault c.args.context.now.writers c.join-ended.ensures.first.fault c.join-ended.ensures.second.fault

-- written out, since `search` takes seconds over each
pub run_all-split_off-requires : goal.run_all-split_off-requires
run_all-split_off-requires g t c = half_within c.len-2.result (vec_len c.args.writers.jobs) c.len-2.ensures

pub run_all-both_halves-requires-clause-some : goal.run_all-both_halves-requires-clause-some
run_all-both_halves-requires-clause-some g t c = λ κs lives.
    front_some c.len.result c.len-2.result (vec_len c.args.writers.jobs) (vec_len c.split_off.new.self) c.if-len-lt2.false
    c.len.ensures c.len-2.ensures c.in-Ok.ensures.len

pub run_all-both_halves-requires-clause-some_other : goal.run_all-both_halves-requires-clause-some_other
run_all-both_halves-requires-clause-some_other g t c = λ κs lives.
    back_some c.len.result c.len-2.result (vec_len c.args.writers.jobs) (vec_len c.in-Ok.others) c.if-len-lt2.false
    c.len.ensures c.len-2.ensures c.in-Ok.ensures.tail_len

pub run_all-both_halves-requires-clause-whole : goal.run_all-both_halves-requires-clause-whole
run_all-both_halves-requires-clause-whole g t c = λ κs lives.
    rooms_within c.in-Ok-split.lane.lane.room c.in-Ok-split.other.lane.room c.args.writers.lane.lane.room
    c.args.writers.lane.words.grant.room c.in-Ok-split.lane.words.grant.room c.in-Ok-split.ensures.parts.rooms c.requires.whole
    (ap (λ (words : WordsValue). words.grant.room) c.in-Ok-split.ensures.words.0)
