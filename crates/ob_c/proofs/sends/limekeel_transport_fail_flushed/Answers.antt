use Rattle.ob_c.specs.Replies.{taken_in_c}
use Rattle.ob_c.proofs.Trying.{told_in}
use Rattle.ob_c.proofs.sends.limekeel_transport_fail_flushed.Goals as goal

pub returns : goal.returns
returns c = told_in _ _ taken_in_c _ _ _ c.obey.ensures c.of.ensures
