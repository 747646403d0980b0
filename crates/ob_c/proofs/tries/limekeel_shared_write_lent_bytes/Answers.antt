use Rattle.ob_shared_connection.specs.Calls.{Puts}
use Rattle.ob_c.specs.Replies.{put_in_c}
use Rattle.ob_c.proofs.Trying.{made_with}
use Rattle.ob_c.proofs.tries.limekeel_shared_write_lent_bytes.Goals as goal

pub returns : goal.returns
returns c = made_with _ Puts put_in_c _ _ _ _ _ c.lent.ensures c.make.ensures c.put.ensures
