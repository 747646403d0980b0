use Rattle.std.proofs.Common.{arith}
use Rattle.ob_c.proofs.managed_opening.limekeel_managed_open_for.Goals as goal

pub returns : goal.returns
returns c = grind (arith, c.is_open.ensures, c.if-is_open.ensures, c.in-Ok.ensures)
