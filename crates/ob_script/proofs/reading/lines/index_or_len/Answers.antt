use Rattle.std.proofs.Common.{sym}
use Rattle.ob_script.proofs.Lines.{position-None}
use Rattle.ob_script.proofs.reading.lines.index_or_len.Goals as goal

pub returns-in-None-clause-place : goal.returns-in-None-clause-place
returns-in-None-clause-place c = position-None _ _ (sym c.in-None.ensures)
