use Rattle.std.proofs.Common.{subst}
use Rattle.ob_types.specs.declared.message.Message.TheVariants.{Block as AsBlock}
use Rattle.ob_shared_connection.specs.Calls.{Puts}
use Rattle.ob_c.specs.Replies.{put_in_c}
use Rattle.ob_c.specs.Sharing.{TriesToWithMemory}
use Rattle.ob_c.specs.declared.shared.Shared.{Shared}
use Rattle.ob_c.proofs.Trying.{made_in, made_with, with_memory}
use Rattle.ob_c.proofs.tries.limekeel_shared_write_bytes.Goals as goal

pub returns-then-bytes-le-FEW_BYTES : goal.returns-then-bytes-le-FEW_BYTES
returns-then-bytes-le-FEW_BYTES c = with_memory _ _ put_in_c _ _ (made_in _ _ put_in_c _ _ _ c.make.ensures c.put.ensures)

pub returns-in-Ok : goal.returns-in-Ok
returns-in-Ok c =
    subst (λ (shared : Shared). TriesToWithMemory shared.value (Puts (AsBlock c.args.bytes.now)) put_in_c
    c.put-in-Ok.result c.make-in-Ok.new.self.value) c.is_open.ensures.1
    (with_memory _ _ put_in_c _ _
    (made_with _ Puts put_in_c _ _ _ _ _ c.in-Ok.ensures.copy c.make-in-Ok.ensures c.put-in-Ok.ensures))
