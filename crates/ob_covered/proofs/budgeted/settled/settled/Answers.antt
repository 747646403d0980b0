use Rattle.std.proofs.Common.{arith}
use Rattle.ob_covered.proofs.Pending.{shown}
use Rattle.ob_covered.proofs.budgeted.settled.settled.Goals as goal

pub settle-pressure-requires : goal.settle-pressure-requires
settle-pressure-requires g c =
    let is = shown c.args.connection.now c.look.result c.look.ensures in
    omega (arith, c.from-pending.ensures, c.requires c.look.result.total is)
