use Rattle.std.proofs.Common.{sym}
use Rattle.ob_script.proofs.Lines.{position-None}
use Rattle.ob_traces.proofs.drawing.point.count_unwritable.Goals as goal

pub returns-in-None-clause-count : goal.returns-in-None-clause-count
returns-in-None-clause-count c = position-None _ _ (sym c.in-None.ensures)
