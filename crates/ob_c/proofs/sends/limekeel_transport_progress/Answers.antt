use Rattle.ob_c.specs.Replies.{status_in_c}
use Rattle.ob_c.proofs.Trying.{told_in}
use Rattle.ob_c.proofs.sends.limekeel_transport_progress.Goals as goal

pub returns : goal.returns
returns c = told_in _ _ status_in_c _ _ _ c.obey.ensures c.status_of.ensures
