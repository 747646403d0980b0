use Rattle.std.proofs.Common.{subst}
use Rattle.ob_shared_connection.specs.Calls.{Puts}
use Rattle.ob_c.specs.Replies.{put_in_c}
use Rattle.ob_c.specs.Sharing.{TriesToWithBlock}
use Rattle.ob_c.specs.declared.shared.Shared.{Shared}
use Rattle.ob_c.proofs.Trying.{with_block}
use Rattle.ob_c.proofs.tries.limekeel_shared_write_block.Goals as goal

pub returns-in-Ok-clause-writes : goal.returns-in-Ok-clause-writes
returns-in-Ok-clause-writes c =
    subst (λ (shared : Shared). TriesToWithBlock shared.value c.args.block.now.value Puts put_in_c
    c.put.result c.make.new.self.value) c.is_open.ensures.1
    (with_block _ c.args.block.now.value Puts put_in_c _ _ _ c.in-Ok.message c.in-Ok.ensures.message c.make.ensures
    c.put.ensures)
