use Rattle.std.proofs.Common.{◌∙◌, ap}
use Rattle.std.specs.Prelude.{is_ok}
use Rattle.ob_types.specs.PendingSize.{pending_size_of}
use Rattle.ob_types.specs.declared.message.Message.TheVariants.{Block}
use Rattle.ob_lifecycle.proofs.managed.ManagedConnection.refuse_block.Goals as goal

pub returns : goal.returns
returns c =
    c.refuse.ensures (Block c.args.bytes.now) (c.is_ok.ensures.value ∙ ap is_ok (c.pending_size_of_block-size.ensures ∙ ap (λ estimate. pending_size_of estimate (Block c.args.bytes.now)) c.estimate.ensures ∙ ap (λ managed. pending_size_of managed.connection.unsent.settings.estimate (Block c.args.bytes.now)) c.self.view_is))
