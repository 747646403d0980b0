use Rattle.ob_core.specs.declared.lane_step.LaneStep.TheVariants.{Subtract}
use Rattle.ob_lanes.proofs.Allowed.{may_subtract, made_at_once, taken_fits}
use Rattle.ob_lanes.proofs.words.Words.subtract_at_once.Goals as goal

pub fetch_sub-requires : goal.fetch_sub-requires
fetch_sub-requires c =
    may_subtract c.self.inside c.self.invariant _ c.self.view_is c.args.seat.now c.requires.calm c.args.amount _ c.from.ensures
    c.requires.may

pub returns-clause-made : goal.returns-clause-made
returns-clause-made c = made_at_once Subtract c.from.ensures c.fetch_sub.ensures

pub returns-clause-fits : goal.returns-clause-fits
returns-clause-fits c = taken_fits c.args.seat.now c.args.amount _ c.requires.may c.fetch_sub.ensures.2.tells
