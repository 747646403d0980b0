use Rattle.std.proofs.Common.{arith, rules}
use Rattle.ob_history.proofs.Staying.{IsSound-kept_in, IsSound-more_room}
use Rattle.ob_history.proofs.recorded.Recorded.reserve.Goals as goal

pub invariant_of-self : goal.invariant_of-self
invariant_of-self c =
    let room = c.reserve.ensures in
    IsSound-more_room c.self.inside _ room.items room.len room.capacity c.self.invariant

pub invariant_of-self-2 : goal.invariant_of-self-2
invariant_of-self-2 c =
    let room = c.reserve.ensures in
    let most = c.max-self-inside.ensures in
    IsSound-kept_in c.self.inside _ _ room.items
    (omega (arith, room.len, most, c.if-count-self.false, c.len.ensures, c.self.invariant.places))
    (omega (arith, room.len, room.capacity, c.in_ok-reserve.ensures.ok, most, c.self.invariant.memory))
    c.self.invariant

-- Named for the must-fail edits that fail here: `search` finds it unasked (CONTRIBUTING.md).
pub returns-then-count-self : goal.returns-then-count-self
returns-then-count-self c = search rules
