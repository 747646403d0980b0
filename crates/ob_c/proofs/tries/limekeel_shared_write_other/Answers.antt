use Rattle.ob_c.specs.Replies.{put_in_c}
use Rattle.ob_c.proofs.Trying.{made_in}
use Rattle.ob_c.proofs.tries.limekeel_shared_write_other.Goals as goal

pub returns : goal.returns
returns c = made_in _ _ put_in_c _ _ _ c.make.ensures c.put.ensures
