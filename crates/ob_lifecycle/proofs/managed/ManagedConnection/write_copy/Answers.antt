use Rattle.std.proofs.Common.{subst, sym}
use Rattle.std.specs.Prelude.{Ok, Err}
use Rattle.ob_types.specs.declared.message.Message.TheVariants.{Block}
use Rattle.ob_lifecycle.specs.Inside.{HasRoom, managed_of}
use Rattle.ob_lifecycle.specs.Managed.{WritesTo}
use Rattle.ob_lifecycle.proofs.Bringing.{managed_with, stands_on}
use Rattle.ob_lifecycle.proofs.Writing.{declined_writes, wrote_writes}
use Rattle.ob_lifecycle.proofs.managed.ManagedConnection.write_copy.Goals as goal

pub returns-in_default : goal.returns-in_default
returns-in_default c = c.refuse_block.ensures c.in_default.ensures

pub accept-requires : goal.accept-requires
accept-requires c =
    (subst (λ old. HasRoom (Block c.args.bytes.now) old c.in-Some.sum) (sym c.self.view_is) c.in-Some.ensures).messages

pub invariant_of-self : goal.invariant_of-self
invariant_of-self c =
    stands_on (managed_of c.self.inside) _ _ _ c.self.invariant
    (wrote_writes (λ why. why) (managed_of c.self.inside) (Block c.args.bytes.now) c.write_copy.new.self c.in-Ok.written c.look-pending.result c.in-Some.sum c.from.result
    c.accept.new.self c.changed.new.self (subst (λ old. HasRoom (Block c.args.bytes.now) old c.in-Some.sum) (sym c.self.view_is) c.in-Some.ensures)
    c.in-Ok.ensures.obeys c.in-Ok.ensures.room c.look-pending.ensures c.from.ensures c.accept.ensures c.changed.ensures).brings

pub returns-in-Ok : goal.returns-in-Ok
returns-in-Ok c =
    subst (λ old. WritesTo (λ why. why) (Block c.args.bytes.now) old (Ok c.in-Ok.written)
    (managed_with (managed_of c.self.inside) c.write_copy.new.self c.self.inside.ending c.accept.new.self c.changed.new.self)) c.self.view_is
    (wrote_writes (λ why. why) (managed_of c.self.inside) (Block c.args.bytes.now) c.write_copy.new.self c.in-Ok.written c.look-pending.result c.in-Some.sum c.from.result
    c.accept.new.self c.changed.new.self (subst (λ old. HasRoom (Block c.args.bytes.now) old c.in-Some.sum) (sym c.self.view_is) c.in-Some.ensures)
    c.in-Ok.ensures.obeys c.in-Ok.ensures.room c.look-pending.ensures c.from.ensures c.accept.ensures c.changed.ensures)

pub invariant_of-self-in-Err : goal.invariant_of-self-in-Err
invariant_of-self-in-Err c =
    stands_on (managed_of c.self.inside) _ _ _ c.self.invariant
    (declined_writes (λ why. why) (managed_of c.self.inside) (Block c.args.bytes.now) c.write_copy.new.self c.refused.result c.in-Err.refusal c.refused.new.self
    c.refused.ensures.same (subst (λ old. HasRoom (Block c.args.bytes.now) old c.in-Some.sum) (sym c.self.view_is) c.in-Some.ensures).own
    c.in-Err.ensures.obeys c.refused.ensures.counted).brings

pub returns-in-Err : goal.returns-in-Err
returns-in-Err c =
    subst (λ old. WritesTo (λ why. why) (Block c.args.bytes.now) old (Err c.refused.result)
    (managed_with (managed_of c.self.inside) c.write_copy.new.self c.self.inside.ending c.self.inside.tally c.refused.new.self)) c.self.view_is
    (declined_writes (λ why. why) (managed_of c.self.inside) (Block c.args.bytes.now) c.write_copy.new.self c.refused.result c.in-Err.refusal c.refused.new.self
    c.refused.ensures.same (subst (λ old. HasRoom (Block c.args.bytes.now) old c.in-Some.sum) (sym c.self.view_is) c.in-Some.ensures).own
    c.in-Err.ensures.obeys c.refused.ensures.counted)
