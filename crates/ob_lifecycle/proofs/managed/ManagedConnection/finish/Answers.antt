use Rattle.std.proofs.Common.{subst, [], ◌∷◌}
use Rattle.ob_lifecycle.specs.Inside.{managed_of}
use Rattle.ob_lifecycle.specs.Managed.{Brings}
use Rattle.ob_lifecycle.proofs.Bringing.{managed_with, stands_on}
use Rattle.ob_lifecycle.proofs.Ends.{brings_finish}
use Rattle.ob_lifecycle.proofs.managed.ManagedConnection.finish.Goals as goal
use Rattle.ob_lifecycle.specs.Events.{Finishing}

pub invariant_of-self : goal.invariant_of-self
invariant_of-self c =
    stands_on (managed_of c.self.inside) _ _ _ c.self.invariant
    (brings_finish (managed_of c.self.inside) c.ask.new.self c.reach.new.self c.waiting_count.result c.reach.result
    c.waiting_count.ensures c.ask.ensures c.reach.ensures.reached c.reach.ensures.told)

pub returns-clause-brings : goal.returns-clause-brings
returns-clause-brings c =
    subst (λ old. Brings old (Finishing ∷ []) c.reach.result
    (managed_with (managed_of c.self.inside) c.self.inside.connection c.reach.new.self c.self.inside.tally c.self.inside.strain)) c.self.view_is
    (brings_finish (managed_of c.self.inside) c.ask.new.self c.reach.new.self c.waiting_count.result c.reach.result
    c.waiting_count.ensures c.ask.ensures c.reach.ensures.reached c.reach.ensures.told)
