use Rattle.ob_c.specs.Within.{PutsWithin, within_in_c}
use Rattle.ob_c.proofs.Trying.{made_with}
use Rattle.ob_c.proofs.tries_within.limekeel_shared_write_lent_bytes_within.Goals as goal

pub returns : goal.returns
returns c = made_with _ PutsWithin within_in_c _ _ _ _ _ c.lent.ensures c.make_within.ensures c.put.ensures
