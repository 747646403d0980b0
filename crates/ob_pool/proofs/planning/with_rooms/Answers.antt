use Rattle.std.proofs.Common.{◌≡◌, ◌<◌, length, map, take, sym, ap, ap₂, ◌∙◌, arith, rules}
use Rattle.std.proofs.Math.Seq.{take-length}
use Rattle.ob_pool.specs.Drive.{room_of, rooms_of}
use Rattle.ob_pool.proofs.PlannedRuns.{room_stored, rooms_stored}
use Rattle.ob_pool.proofs.planning.with_rooms.Goals as goal

pub loop-plan-preserved : goal.loop-plan-preserved
loop-plan-preserved c =
    let estimate = c.args.estimate in
    let task = c.args.task in
    let plans = c.deref-plan-items.result.now in
    let kept = c.loop-plan.invariant in
    let within = c.loop-plan-test.true in
    let room : c.in_ok-room.room ≡ room_of estimate task c.plan-item.result = search rules in
    let few : c.loop-plan.plan-index < length c.loop-plan.rooms = omega (arith, kept.long, within, c.requires, ap length c.deref-plan-items.ensures.value) in
    record {
      long = search rules;
      writer = search rules;
      each = room_stored estimate task c.loop-plan.rooms plans c.loop-plan.plan-index c.loop-plan.writer c.in_ok-room.room
          c.plan-item.result kept.writer few within c.plan-item.is room kept.each;
      all = rooms_stored estimate task plans c.loop-plan.plan-index c.loop-plan.all c.in_ok-room.room c.in_ok-all.all
          c.plan-item.result within c.plan-item.is room c.in_ok-all.ensures.1 kept.all;
    }

pub returns-clause-rooms : goal.returns-clause-rooms
returns-clause-rooms c =
    let estimate = c.args.estimate in
    let task = c.args.task in
    let plans = c.args.plans.items in
    let kept = c.loop-plan.invariant in
    let value = c.deref-plan-items.ensures.value in
    let end : c.loop-plan.plan-index ≡ length plans =
    omega (arith, c.loop-plan-test.false, c.loop-plan.auto.plan-index-end, ap length value) in
    let whole : take c.loop-plan.plan-index c.deref-plan-items.result.now ≡ plans =
    ap₂ take end value ∙ take-length plans in
    record {
      each = ap (λ count. take count c.loop-plan.rooms) (sym end) ∙ kept.each ∙ ap (map (room_of estimate task)) whole;
      all = kept.all ∙ ap (rooms_of estimate task) whole;
    }
