use Rattle.ob_c.specs.Within.{PutsWithin, within_in_c}
use Rattle.std.proofs.Common.{subst}
use Rattle.ob_types.specs.declared.message.Message.TheVariants.{Block as AsBlock}
use Rattle.ob_c.specs.Sharing.{TriesToWithMemory}
use Rattle.ob_c.specs.declared.shared.Shared.{Shared}
use Rattle.ob_c.proofs.Trying.{made_in, made_with, with_memory}
use Rattle.ob_c.proofs.tries_within.limekeel_shared_write_bytes_within.Goals as goal

pub returns-then-bytes-le-FEW_BYTES : goal.returns-then-bytes-le-FEW_BYTES
returns-then-bytes-le-FEW_BYTES c = with_memory _ _ within_in_c _ _ (made_in _ _ within_in_c _ _ _ c.make_within.ensures c.put.ensures)

pub returns-in-Ok : goal.returns-in-Ok
returns-in-Ok c =
    subst (λ (shared : Shared). TriesToWithMemory shared.value (PutsWithin (AsBlock c.args.bytes.now)) within_in_c
    c.put-in-Ok.result c.make_within-in-Ok.new.self.value) c.is_open.ensures.1
    (with_memory _ _ within_in_c _ _
    (made_with _ PutsWithin within_in_c _ _ _ _ _ c.in-Ok.ensures.copy c.make_within-in-Ok.ensures c.put-in-Ok.ensures))
