use Rattle.std.proofs.Common.{◌≡◌, ◌-◌}
use Rattle.ob_types.specs.Marks.{total_half}
use Rattle.ob_core.specs.declared.lane_step.LaneStep.TheVariants.{Add}
use Rattle.ob_lanes.proofs.Allowed.{may_move, added_is, made_or_read}
use Rattle.ob_lanes.proofs.words.Words.try_add.Goals as goal
use Rattle.ob_lanes.proofs.words.Words.try_add.Goals.{After-after_add-next}

-- the exchange makes the total the amount more
adds : (c : After-after_add-next) → total_half c.after_add-next.result - total_half c.args.expected ≡ c.args.amount
adds c =
    added_is c.args.seat.now c.args.amount c.args.expected _ c.marks.result c.marks.ensures.room
    c.requires.may c.requires.expected c.after_add-next.ensures

pub compare_exchange-requires : goal.compare_exchange-requires
compare_exchange-requires c =
    may_move c.self.inside c.self.invariant _ c.self.view_is c.args.seat.now Add _ _ c.args.expected _ _ c.requires.may
    c.marks.ensures.marks c.after_add-next.ensures (adds (goal.at.compare_exchange-requires c).After-after_add-next)

pub returns-clause-made : goal.returns-clause-made
returns-clause-made c =
    made_or_read Add (adds (goal.at.returns-clause-made c).After-after_add-next) c.compare_exchange.ensures
