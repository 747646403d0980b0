use Rattle.ob_core.specs.declared.lane_step.LaneStep.TheVariants.{Add}
use Rattle.ob_lanes.proofs.Allowed.{may_add, made_at_once, added_fits}
use Rattle.ob_lanes.proofs.words.Words.add_at_once.Goals as goal

pub fetch_add-requires : goal.fetch_add-requires
fetch_add-requires c =
    may_add c.self.inside c.self.invariant _ c.self.view_is c.args.seat.now c.requires.calm c.args.amount _ c.from.ensures
    c.requires.may

pub returns-clause-made : goal.returns-clause-made
returns-clause-made c = made_at_once Add c.from.ensures c.fetch_add.ensures

pub returns-clause-fits : goal.returns-clause-fits
returns-clause-fits c =
    added_fits c.args.seat.now c.args.amount _ c.marks-marks.ensures.room c.requires.may c.fetch_add.ensures.2.tells
