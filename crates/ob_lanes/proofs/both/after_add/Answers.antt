use Rattle.std.proofs.Common.{◌+◌, ◌<◌, arith}
use Rattle.ob_types.specs.Marks.{total_half}
use Rattle.ob_lanes.proofs.Packs.{raised_both}
use Rattle.ob_lanes.proofs.both.after_add.Goals as goal

pub returns-then-total_of-high : goal.returns-then-total_of-high
returns-then-total_of-high c =
    let above : c.args.marks.high < total_half (c.args.found + c.from.result) = omega arith in
    rw c.from.ensures (raised_both c.args.marks c.args.found c.args.amount c.requires (rw c.from.ensures at above))
