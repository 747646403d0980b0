use Rattle.std.proofs.Common.{List, subst, ◌≡◌}
use Rattle.ob_lifecycle.specs.Events.{Event}
use Rattle.ob_lifecycle.specs.Inside.{managed_of}
use Rattle.ob_lifecycle.specs.Managed.{StandsFor, opened_as}
use Rattle.ob_lifecycle.proofs.Ends.{shrunk_opened, shrunk_stands}
use Rattle.ob_lifecycle.proofs.managed.ManagedConnection.shrink_to_fit.Goals as goal

pub invariant_of-self : goal.invariant_of-self
invariant_of-self c =
    (c.self.invariant.0, shrunk_stands (managed_of c.self.inside) c.shrink_to_fit.new.self c.shrink_to_fit.ensures c.self.invariant.0 c.self.invariant.1)

pub returns-clause-stands : goal.returns-clause-stands
returns-clause-stands c =
    subst (λ old. (events : List Event) → StandsFor old events → StandsFor (record (managed_of c.self.inside) { connection = c.shrink_to_fit.new.self }) events) c.self.view_is
    (shrunk_stands (managed_of c.self.inside) c.shrink_to_fit.new.self c.shrink_to_fit.ensures)

pub returns-clause-opened : goal.returns-clause-opened
returns-clause-opened c =
    subst (λ old. opened_as (record (managed_of c.self.inside) { connection = c.shrink_to_fit.new.self }) ≡ opened_as old) c.self.view_is
    (shrunk_opened (managed_of c.self.inside) c.shrink_to_fit.new.self c.shrink_to_fit.ensures)
