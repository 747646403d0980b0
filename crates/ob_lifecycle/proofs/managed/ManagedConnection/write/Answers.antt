use Rattle.std.proofs.Common.{◌∙◌, ap, subst, sym}
use Rattle.std.specs.Prelude.{Ok, Err, is_ok}
use Rattle.ob_types.specs.PendingSize.{pending_size_of}
use Rattle.ob_lifecycle.specs.Inside.{HasRoom, managed_of}
use Rattle.ob_lifecycle.specs.Managed.{WritesTo}
use Rattle.ob_lifecycle.specs.declared.fault.NotWritten.{NotWritten}
use Rattle.ob_lifecycle.proofs.Bringing.{managed_with, stands_on}
use Rattle.ob_lifecycle.proofs.Writing.{declined_writes, refused_alike, wrote_writes}
use Rattle.ob_lifecycle.proofs.managed.ManagedConnection.write.Goals as goal

pub returns-in_default-clause-writes : goal.returns-in_default-clause-writes
returns-in_default-clause-writes c =
    refused_alike (λ (left : NotWritten). left.why) c.args.message c.args.self.now c.refuse-why.new.self (record { why = c.refuse-why.result; message = c.args.message })
    (c.refuse-why.ensures c.args.message (c.is_ok.ensures.value ∙ ap is_ok (c.pending_size-size.ensures ∙ ap (λ estimate. pending_size_of estimate c.args.message) c.estimate.ensures ∙ ap (λ managed. pending_size_of managed.connection.unsent.settings.estimate c.args.message) c.self.view_is))
    (c.in_default.ensures c.args.message (c.pending_size-size.ensures ∙ ap (λ estimate. pending_size_of estimate c.args.message) c.estimate.ensures ∙ ap (λ managed. pending_size_of managed.connection.unsent.settings.estimate c.args.message) c.self.view_is)))

pub invariant_of-self : goal.invariant_of-self
invariant_of-self c =
    stands_on (managed_of c.self.inside) _ _ _ c.self.invariant
    (wrote_writes (λ (left : NotWritten). left.why) (managed_of c.self.inside) c.args.message c.write.new.self c.in-Ok.written c.look-pending.result c.in-Some.bytes c.from.result
    c.accept.new.self c.changed.new.self (subst (λ old. HasRoom c.args.message old c.in-Some.bytes) (sym c.self.view_is) (c.in-Some.ensures c.args.message
    (c.pending_size-size.ensures ∙ ap (λ estimate. pending_size_of estimate c.args.message) c.estimate.ensures ∙ ap (λ managed. pending_size_of managed.connection.unsent.settings.estimate c.args.message) c.self.view_is)))
    c.in-Ok.ensures.obeys c.in-Ok.ensures.room c.look-pending.ensures c.from.ensures c.accept.ensures c.changed.ensures).brings

pub returns-in-Ok-clause-writes : goal.returns-in-Ok-clause-writes
returns-in-Ok-clause-writes c =
    subst (λ old. WritesTo (λ (left : NotWritten). left.why) c.args.message old (Ok c.in-Ok.written)
    (managed_with (managed_of c.self.inside) c.write.new.self c.self.inside.ending c.accept.new.self c.changed.new.self)) c.self.view_is
    (wrote_writes (λ (left : NotWritten). left.why) (managed_of c.self.inside) c.args.message c.write.new.self c.in-Ok.written c.look-pending.result c.in-Some.bytes c.from.result
    c.accept.new.self c.changed.new.self (subst (λ old. HasRoom c.args.message old c.in-Some.bytes) (sym c.self.view_is) (c.in-Some.ensures c.args.message
    (c.pending_size-size.ensures ∙ ap (λ estimate. pending_size_of estimate c.args.message) c.estimate.ensures ∙ ap (λ managed. pending_size_of managed.connection.unsent.settings.estimate c.args.message) c.self.view_is)))
    c.in-Ok.ensures.obeys c.in-Ok.ensures.room c.look-pending.ensures c.from.ensures c.accept.ensures c.changed.ensures)

pub invariant_of-self-in-Err : goal.invariant_of-self-in-Err
invariant_of-self-in-Err c =
    stands_on (managed_of c.self.inside) _ _ _ c.self.invariant
    (declined_writes (λ (left : NotWritten). left.why) (managed_of c.self.inside) c.args.message c.write.new.self (record { why = c.refused.result; message = c.in-Err.refused.message }) c.in-Err.refused.refusal c.refused.new.self
    c.refused.ensures.same (subst (λ old. HasRoom c.args.message old c.in-Some.bytes) (sym c.self.view_is) (c.in-Some.ensures c.args.message
    (c.pending_size-size.ensures ∙ ap (λ estimate. pending_size_of estimate c.args.message) c.estimate.ensures ∙ ap (λ managed. pending_size_of managed.connection.unsent.settings.estimate c.args.message) c.self.view_is))).own
    c.in-Err.ensures.obeys c.refused.ensures.counted).brings

pub returns-in-Err-clause-writes : goal.returns-in-Err-clause-writes
returns-in-Err-clause-writes c =
    subst (λ old. WritesTo (λ (left : NotWritten). left.why) c.args.message old (Err (record { why = c.refused.result; message = c.in-Err.refused.message }))
    (managed_with (managed_of c.self.inside) c.write.new.self c.self.inside.ending c.self.inside.tally c.refused.new.self)) c.self.view_is
    (declined_writes (λ (left : NotWritten). left.why) (managed_of c.self.inside) c.args.message c.write.new.self (record { why = c.refused.result; message = c.in-Err.refused.message }) c.in-Err.refused.refusal c.refused.new.self
    c.refused.ensures.same (subst (λ old. HasRoom c.args.message old c.in-Some.bytes) (sym c.self.view_is) (c.in-Some.ensures c.args.message
    (c.pending_size-size.ensures ∙ ap (λ estimate. pending_size_of estimate c.args.message) c.estimate.ensures ∙ ap (λ managed. pending_size_of managed.connection.unsent.settings.estimate c.args.message) c.self.view_is))).own
    c.in-Err.ensures.obeys c.refused.ensures.counted)
