use Rattle.std.proofs.Common.{◌<◌, length, ap, ◌∙◌, arith, rules}
use Rattle.std.specs.Prelude.{vec_len}
use Rattle.std.proofs.lemmas.List.{length-map}
use Rattle.std.proofs.lemmas.List.FromFn.{length-range_with_len}
use Rattle.std.specs.List.{range_with_len}
use Rattle.ob_shared.specs.Calls.{new_share}
use Rattle.ob_pool.proofs.Jobs.{last_share}
use Rattle.ob_pool.proofs.opening.open.Goals as goal

pub unreachable-requires : goal.unreachable-requires
unreachable-requires g c =
    let all = ap length c.in-Ok.ensures.shares ∙ length-map (range_with_len 0 c.args.opening.callers) new_share
    ∙ length-range_with_len 0 c.args.opening.callers in
    let some : 0 < length c.in-Ok.shares.items = omega (arith, all, c.requires.callers) in
    let there : 0 < vec_len c.in-Ok.shares = search rules in
    absurd (cc (c.in_default-pop.ensures.variant.1 there))

pub jobs_of-requires-clause-shares : goal.jobs_of-requires-clause-shares
jobs_of-requires-clause-shares g c =
    (last_share (length c.args.checked.plans) c.args.opening.callers c.in-Ok.shares.items c.pop.new.self.items
    c.in-Some.share c.in-Ok.ensures.shares c.requires.callers c.in-Some.ensures.items).0

pub returns-in-Ok-jobs_of-clause-share : goal.returns-in-Ok-jobs_of-clause-share
returns-in-Ok-jobs_of-clause-share g c =
    (last_share (length c.args.checked.plans) c.args.opening.callers c.in-Ok.shares.items c.pop.new.self.items
    c.in-Some.share c.in-Ok.ensures.shares c.requires.callers c.in-Some.ensures.items).1
