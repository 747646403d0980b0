use Rattle.ob_c.specs.Within.{within_in_c}
use Rattle.ob_c.proofs.Trying.{made_in}
use Rattle.ob_c.proofs.tries_within.limekeel_shared_write_other_within.Goals as goal

pub returns : goal.returns
returns c = made_in _ _ within_in_c _ _ _ c.make_within.ensures c.put.ensures
