use Rattle.ob_c.specs.Replies.{cancelled_in_c}
use Rattle.ob_c.proofs.Trying.{told_in}
use Rattle.ob_c.proofs.tries.limekeel_shared_cancel.Goals as goal

pub returns : goal.returns
returns c = told_in _ _ cancelled_in_c _ _ _ c.obey.ensures c.of.ensures
