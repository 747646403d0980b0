use Rattle.std.proofs.Common.{◌∙◌, Result, ap, subst, sym}
use Rattle.ob_budget.specs.declared.fault.RaiseFault.{RaiseFault}
use Rattle.ob_covered.specs.declared.fault.Told.{Told}
use Rattle.ob_shared_connection.specs.Calls.{UnderLock}
use Rattle.ob_c.specs.Within.{DoesWithin}
use Rattle.ob_c.specs.declared.shared.Shared.{Shared}
use Rattle.ob_c.proofs.Trying.{made}
use Rattle.ob_c.proofs.Within.{acts_let_go}
use Rattle.ob_c.proofs.shared.Shared.make_within.Goals as goal

pub returns-in-Ok : goal.returns-in-Ok
returns-in-Ok g c =
    made c.args.self.now.value _ c.let_go.result c.reach.result.now c.try_act_within.new.self
    (ap (λ (shared : Shared). shared.value) (sym c.is_open.ensures.1) ∙ c.reach.ensures.value)
    (subst (λ (told : Told (Result (Result _ _) RaiseFault)). UnderLock c.reach.result.now
    (DoesWithin g.A.Act.uncovered (g.A.Act.does c.args.act) (g.A.Act.commands c.args.act) told) c.try_act_within.new.self)
    (sym c.let_go.ensures)
    (acts_let_go g.A.Act.uncovered (g.A.Act.does c.args.act) (g.A.Act.commands c.args.act) c.args.act _ c.reach.result.now
    c.try_act_within.new.self c.in-Ok.ensures.under))
