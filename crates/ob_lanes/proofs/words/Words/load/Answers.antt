use Rattle.ob_lanes.proofs.Allowed.{may_load}
use Rattle.ob_lanes.proofs.words.Words.load.Goals as goal

pub load-requires : goal.load-requires
load-requires c =
    may_load c.self.inside c.self.invariant _ c.self.view_is c.args.seat.now c.requires
