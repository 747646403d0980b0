use Rattle.std.proofs.Common.{refl, subst, sym}
use Rattle.std.specs.Prelude.{Err, None, Some}
use Rattle.ob_types.specs.declared.command.Command.TheVariants.{Write}
use Rattle.ob_types.specs.declared.message.Message.TheVariants.{Block}
use Rattle.ob_types.specs.declared.refusal.Refusal.TheVariants.{NoMemory}
use Rattle.ob_connection.specs.Obeying.{Accepts}
use Rattle.ob_lifecycle.specs.Inside.{managed_of}
use Rattle.ob_lifecycle.specs.Managed.{Gives, IsNotWritten, WritesTo, fault_of_write}
use Rattle.ob_lifecycle.specs.declared.fault.WriteFault.TheVariants.{Refused}
use Rattle.ob_lifecycle.proofs.Bringing.{stands_on}
use Rattle.ob_lifecycle.proofs.Writing.{refused_brings, unshared_writes, without_memory}
use Rattle.ob_lifecycle.proofs.managed.ManagedConnection.write_shared.Goals as goal

pub invariant_of-self : goal.invariant_of-self
invariant_of-self c =
    stands_on (managed_of c.self.inside) _ _ _ c.self.invariant
    (refused_brings (managed_of c.self.inside) c.self.inside.connection c.refused.new.self c.in-Some.why refl c.refused.ensures.counted)

pub returns-in-Some : goal.returns-in-Some
returns-in-Some c =
    subst (λ why. WritesTo (λ why. why) (Block c.args.block.now) c.args.self.now (Err why) (record (managed_of c.self.inside) { strain = c.refused.new.self })) (sym c.refused.ensures.same)
    (subst (λ bytes. WritesTo (λ why. why) (Block bytes) c.args.self.now (Err c.in-Some.why) (record (managed_of c.self.inside) { strain = c.refused.new.self })) c.as_slice.ensures
    (subst (λ old. WritesTo (λ why. why) (Block c.as_slice.result.now) old (Err c.in-Some.why) (record (managed_of c.self.inside) { strain = c.refused.new.self })) c.self.view_is
    (unshared_writes (managed_of c.self.inside) c.refused.new.self (Block c.as_slice.result.now) c.in-Some.why
    (subst (λ old. Gives old (fault_of_write (Block c.as_slice.result.now)) (Some c.in-Some.why)) (sym c.self.view_is) c.in-Some.ensures.first)
    (subst (λ old. IsNotWritten old.connection (Block c.as_slice.result.now) c.in-Some.why old.connection) (sym c.self.view_is) c.in-Some.ensures.refused)
    c.in-Some.ensures.other c.refused.ensures.counted)))

pub invariant_of-self-in_default-clone : goal.invariant_of-self-in_default-clone
invariant_of-self-in_default-clone c =
    stands_on (managed_of c.self.inside) _ _ _ c.self.invariant
    (refused_brings (managed_of c.self.inside) c.self.inside.connection c.refused-in_default-clone.new.self (Refused NoMemory) refl
    c.refused-in_default-clone.ensures.counted)

pub returns-in_default-clone : goal.returns-in_default-clone
returns-in_default-clone c =
    subst (λ why. WritesTo (λ why. why) (Block c.args.block.now) c.args.self.now (Err why) (record (managed_of c.self.inside) { strain = c.refused-in_default-clone.new.self })) (sym c.refused-in_default-clone.ensures.same)
    (subst (λ bytes. WritesTo (λ why. why) (Block bytes) c.args.self.now (Err (Refused NoMemory)) (record (managed_of c.self.inside) { strain = c.refused-in_default-clone.new.self })) c.as_slice.ensures
    (subst (λ old. WritesTo (λ why. why) (Block c.as_slice.result.now) old (Err (Refused NoMemory)) (record (managed_of c.self.inside) { strain = c.refused-in_default-clone.new.self })) c.self.view_is
    (without_memory (managed_of c.self.inside) c.refused-in_default-clone.new.self (Block c.as_slice.result.now)
    (subst (λ old. Gives old (fault_of_write (Block c.as_slice.result.now)) None) (sym c.self.view_is) c.in_default.ensures.first)
    (subst (λ old. Accepts old.connection (Write (Block c.as_slice.result.now))) (sym c.self.view_is) (c.in_default.ensures.accepted refl))
    c.refused-in_default-clone.ensures.counted)))

pub returns-in-Err : goal.returns-in-Err
returns-in-Err c =
    subst (λ bytes. WritesTo (λ why. why) (Block bytes) c.args.self.now (Err c.in-Err.not.why) c.write.new.self) c.in-Ok.ensures.cases
    (let it = c.in-Err.ensures.writes in record {
      written = tt;
      room = tt;
      refused = it.refused;
      first = it.first;
      memory_last = it.memory_last;
      brings = it.brings;
    })
