use Rattle.std.proofs.Common.{◌≡◌, ◌∷◌, drop, length, take, ap, ◌∙◌, arith, rules}
use Rattle.std.specs.Prelude.{slice_index_or, vec_capacity, vec_len}
use Rattle.ob_shared.specs.Calls.{ShareValue}
use Rattle.ob_pool.proofs.Jobs.{asked_more, next_share, roomy_more, rooms_more, place_next}
use Rattle.ob_pool.proofs.PlannedRuns.{next_room}
use Rattle.ob_pool.proofs.opening.jobs_of.Goals as goal

pub loop-plan-preserved : goal.loop-plan-preserved
loop-plan-preserved g c =
    let kept = c.loop-plan.invariant in
    let rest = c.next.new.self.rest.items in
    let begin : c.loop-plan.plan-iterator.rest.items ≡ c.in-Some.plan ∷ rest = search rules in
    let split : c.loop-plan.shares.rest.items
    ≡ c.in-Some-next.share ∷ c.next-in-loop-plan.new.self.rest.items = search rules in
    let count = c.push_reserved.ensures.len in
    let pushed = c.push_reserved.ensures.items in
    let mine = next_share _ _ _ _ _ _ _ rest kept.shares begin split count in
    let checked = c.args.checked in
    let room = next_room checked.estimate checked.task c.checked.inside.rooms (vec_len c.loop-plan.jobs) 0 _ _ rest kept.ahead begin in
    let its = ap (λ writer. slice_index_or c.checked.inside.rooms writer 0) c.len-in-loop-plan.ensures ∙ room.0 in
    record {
      asked = asked_more _ _ _ _ _ _ rest _ kept.asked begin (ap (λ (share : ShareValue). share.maker) mine.0) count pushed;
      shares = mine.1;
      ahead = ap (λ writer. take (length rest) (drop writer c.checked.inside.rooms)) count ∙ room.1;
      roomy = roomy_more checked.estimate checked.task _ _ _ kept.roomy its pushed;
      room = rooms_more checked.estimate checked.task _ _ _ _ rest _ kept.room begin its pushed;
      places = omega (arith, kept.places, count, ap length begin, c.push_reserved.ensures.capacity);
    }

pub push_reserved-requires : goal.push_reserved-requires
push_reserved-requires g c =
    let rest = c.next.new.self.rest.items in
    let begin : c.loop-plan.plan-iterator.rest.items ≡ c.in-Some.plan ∷ rest = search rules in
    place_next (vec_len c.loop-plan.jobs) (vec_capacity c.loop-plan.jobs) c.in-Some.plan
    c.loop-plan.plan-iterator.rest.items rest c.loop-plan.invariant.places begin
