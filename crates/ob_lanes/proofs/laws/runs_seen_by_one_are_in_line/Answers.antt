use Rattle.ob_lanes.proofs.Runs.{in_line}
use Rattle.ob_lanes.proofs.laws.runs_seen_by_one_are_in_line.Goals as goal

pub returns : goal.returns
returns c = record { in_line = in_line }
