use Rattle.std.proofs.Common.{ap}
use Rattle.ob_lanes.proofs.Halves.{join_told}
use Rattle.ob_lanes.proofs.lane.Lane.join.Goals as goal

pub returns-clause-lane : goal.returns-clause-lane
returns-clause-lane c =
    let a = c.args in
    let mine = c.self.inside.running.seat.me.0 in
    join_told a.self.words.grant.room mine.grant.room a.self.lane a.other.lane mine.lane
    c.other.inside.running.seat.me.0.lane _
    (ap (λ v. v.words.grant.room) c.self.view_is) (ap (λ v. v.lane) c.self.view_is) (ap (λ v. v.lane) c.other.view_is)
    (ap (λ m. m.0.lane) c.merge_seats.ensures.both)
