use Rattle.std.proofs.Common.{◌-◌, ◌<◌, arith}
use Rattle.ob_types.specs.Marks.{total_half}
use Rattle.ob_lanes.proofs.Packs.{lowered_both}
use Rattle.ob_lanes.proofs.both.after_subtract.Goals as goal

pub returns-then-total_of-low : goal.returns-then-total_of-low
returns-then-total_of-low c =
    let below : total_half (c.args.found - c.from.result) < c.args.marks.low = omega arith in
    rw c.from.ensures
    (lowered_both c.args.marks c.args.found c.args.amount c.ranges.found.fits c.requires (rw c.from.ensures at below))
