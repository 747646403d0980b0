use Rattle.std.proofs.Common.{◌∙◌, ap, subst, sym}
use Rattle.std.specs.Prelude.{Some, None, is_ok}
use Rattle.ob_types.specs.PendingSize.{pending_size_of}
use Rattle.ob_types.specs.declared.message.Message.TheVariants.{Block}
use Rattle.ob_lifecycle.specs.Inside.{managed_of, own_fault}
use Rattle.ob_lifecycle.specs.Managed.{Gives, fault_of_write}
use Rattle.ob_lifecycle.specs.declared.fault.WriteFault.TheVariants.{Refused}
use Rattle.ob_lifecycle.proofs.Writing.{fits_none, fits_own, none_of_both}
use Rattle.ob_lifecycle.proofs.managed.ManagedConnection.fault_of_block.Goals as goal

pub returns-then-is_none-clause-first : goal.returns-then-is_none-clause-first
returns-then-is_none-clause-first c =
    (c.fault_without_room.ensures (Block c.args.bytes.now) (c.is_ok.ensures.value ∙ ap is_ok (c.pending_size_of_block-size.ensures ∙ ap (λ estimate. pending_size_of estimate (Block c.args.bytes.now)) c.estimate.ensures ∙ ap (λ managed. pending_size_of managed.connection.unsent.settings.estimate (Block c.args.bytes.now)) c.self.view_is))
    (fits_none (Block c.args.bytes.now) c.args.self.now c.bytes_with.result c.if-is_none.ensures (c.bytes_with.ensures (Block c.args.bytes.now)
    (c.pending_size_of_block-size.ensures ∙ ap (λ estimate. pending_size_of estimate (Block c.args.bytes.now)) c.estimate.ensures ∙ ap (λ managed. pending_size_of managed.connection.unsent.settings.estimate (Block c.args.bytes.now)) c.self.view_is)))).first

pub returns-then-is_none-clause-refused : goal.returns-then-is_none-clause-refused
returns-then-is_none-clause-refused c =
    (c.fault_without_room.ensures (Block c.args.bytes.now) (c.is_ok.ensures.value ∙ ap is_ok (c.pending_size_of_block-size.ensures ∙ ap (λ estimate. pending_size_of estimate (Block c.args.bytes.now)) c.estimate.ensures ∙ ap (λ managed. pending_size_of managed.connection.unsent.settings.estimate (Block c.args.bytes.now)) c.self.view_is))
    (fits_none (Block c.args.bytes.now) c.args.self.now c.bytes_with.result c.if-is_none.ensures (c.bytes_with.ensures (Block c.args.bytes.now)
    (c.pending_size_of_block-size.ensures ∙ ap (λ estimate. pending_size_of estimate (Block c.args.bytes.now)) c.estimate.ensures ∙ ap (λ managed. pending_size_of managed.connection.unsent.settings.estimate (Block c.args.bytes.now)) c.self.view_is)))).left

pub returns-then-is_none-clause-other : goal.returns-then-is_none-clause-other
returns-then-is_none-clause-other c =
    (c.fault_without_room.ensures (Block c.args.bytes.now) (c.is_ok.ensures.value ∙ ap is_ok (c.pending_size_of_block-size.ensures ∙ ap (λ estimate. pending_size_of estimate (Block c.args.bytes.now)) c.estimate.ensures ∙ ap (λ managed. pending_size_of managed.connection.unsent.settings.estimate (Block c.args.bytes.now)) c.self.view_is))
    (fits_none (Block c.args.bytes.now) c.args.self.now c.bytes_with.result c.if-is_none.ensures (c.bytes_with.ensures (Block c.args.bytes.now)
    (c.pending_size_of_block-size.ensures ∙ ap (λ estimate. pending_size_of estimate (Block c.args.bytes.now)) c.estimate.ensures ∙ ap (λ managed. pending_size_of managed.connection.unsent.settings.estimate (Block c.args.bytes.now)) c.self.view_is)))).other

pub returns-in-None-clause-first : goal.returns-in-None-clause-first
returns-in-None-clause-first c =
    subst (λ old. Gives old (fault_of_write (Block c.args.bytes.now)) None) c.self.view_is
    (none_of_both (managed_of c.self.inside) (Block c.args.bytes.now) None
    (subst (λ old. Gives old (own_fault (Block c.args.bytes.now)) None) (sym c.self.view_is) (fits_own (Block c.args.bytes.now) c.args.self.now c.bytes_with.result c.if-is_none.ensures (c.bytes_with.ensures (Block c.args.bytes.now)
    (c.pending_size_of_block-size.ensures ∙ ap (λ estimate. pending_size_of estimate (Block c.args.bytes.now)) c.estimate.ensures ∙ ap (λ managed. pending_size_of managed.connection.unsent.settings.estimate (Block c.args.bytes.now)) c.self.view_is))))
    c.in-None.ensures.first)

pub returns-in-Some-clause-first : goal.returns-in-Some-clause-first
returns-in-Some-clause-first c =
    subst (λ old. Gives old (fault_of_write (Block c.args.bytes.now)) (Some (Refused c.in-Some.refusal))) c.self.view_is
    (none_of_both (managed_of c.self.inside) (Block c.args.bytes.now) (Some c.in-Some.refusal)
    (subst (λ old. Gives old (own_fault (Block c.args.bytes.now)) None) (sym c.self.view_is) (fits_own (Block c.args.bytes.now) c.args.self.now c.bytes_with.result c.if-is_none.ensures (c.bytes_with.ensures (Block c.args.bytes.now)
    (c.pending_size_of_block-size.ensures ∙ ap (λ estimate. pending_size_of estimate (Block c.args.bytes.now)) c.estimate.ensures ∙ ap (λ managed. pending_size_of managed.connection.unsent.settings.estimate (Block c.args.bytes.now)) c.self.view_is))))
    c.in-Some.ensures.first)
