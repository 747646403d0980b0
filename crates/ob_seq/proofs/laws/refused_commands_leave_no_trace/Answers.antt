use Rattle.ob_seq.proofs.Rows.Accepting.{all_among, among_are_accepted, among_settle}
use Rattle.ob_seq.proofs.laws.refused_commands_leave_no_trace.Goals as goal

pub returns : goal.returns
returns c = record { accepted = among_are_accepted; settled = among_settle; all = all_among }
