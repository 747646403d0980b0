use Rattle.std.proofs.Common.{refl, subst, sym}
use Rattle.std.specs.Prelude.{Err}
use Rattle.ob_lifecycle.specs.Inside.{IsRefusedAs, managed_of}
use Rattle.ob_lifecycle.specs.Managed.{WritesTo}
use Rattle.ob_lifecycle.proofs.Bringing.{stands_on}
use Rattle.ob_lifecycle.proofs.Writing.{refused_brings, unshared_writes}
use Rattle.ob_lifecycle.proofs.managed.ManagedConnection.refuse.Goals as goal

pub invariant_of-self : goal.invariant_of-self
invariant_of-self c =
    stands_on (managed_of c.self.inside) _ _ _ c.self.invariant
    (refused_brings (managed_of c.self.inside) c.self.inside.connection c.refused.new.self c.fault_without_room-why.result refl
    c.refused.ensures.counted)

pub returns : goal.returns
returns c message size fits =
    let is : IsRefusedAs message (managed_of c.self.inside) c.fault_without_room-why.result =
    subst (λ old. IsRefusedAs message old c.fault_without_room-why.result) (sym c.self.view_is) (c.fault_without_room-why.ensures message size fits) in
    subst (λ why. WritesTo (λ why. why) message c.args.self.now (Err why) (record (managed_of c.self.inside) { strain = c.refused.new.self }))
    (sym c.refused.ensures.same)
    (subst (λ old. WritesTo (λ why. why) message old (Err c.fault_without_room-why.result) (record (managed_of c.self.inside) { strain = c.refused.new.self }))
    c.self.view_is
    (unshared_writes (managed_of c.self.inside) c.refused.new.self message c.fault_without_room-why.result is.first is.left is.other
    c.refused.ensures.counted))
