use Rattle.ob_c.specs.Replies.{changed_in_c}
use Rattle.ob_c.proofs.Trying.{told_in}
use Rattle.ob_c.proofs.tries.limekeel_shared_user_bit.Goals as goal

pub returns : goal.returns
returns c = told_in _ _ changed_in_c _ _ _ c.obey.ensures c.of.ensures
