use Rattle.std.proofs.Common.{◌≡◌, ◌-◌}
use Rattle.ob_types.specs.Marks.{total_half}
use Rattle.ob_core.specs.declared.lane_step.LaneStep.TheVariants.{Subtract}
use Rattle.ob_lanes.proofs.Allowed.{may_move, taken_is, made_or_read}
use Rattle.ob_lanes.proofs.words.Words.try_subtract.Goals as goal
use Rattle.ob_lanes.proofs.words.Words.try_subtract.Goals.{After-after_subtract-next}

-- the exchange makes the total the amount less
takes : (c : After-after_subtract-next)
    → total_half c.args.expected - total_half c.after_subtract-next.result ≡ c.args.amount
takes c =
    taken_is c.args.seat.now c.args.amount c.args.expected _ c.marks.result c.requires.may c.requires.expected
    c.after_subtract-next.ensures

pub compare_exchange-requires : goal.compare_exchange-requires
compare_exchange-requires c =
    may_move c.self.inside c.self.invariant _ c.self.view_is c.args.seat.now Subtract _ _ c.args.expected _ _
    c.requires.may c.marks.ensures.marks c.after_subtract-next.ensures
    (takes (goal.at.compare_exchange-requires c).After-after_subtract-next)

pub returns-clause-made : goal.returns-clause-made
returns-clause-made c =
    made_or_read Subtract (takes (goal.at.returns-clause-made c).After-after_subtract-next) c.compare_exchange.ensures
