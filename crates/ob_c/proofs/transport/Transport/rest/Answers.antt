use Rattle.std.proofs.Common.{◌∙◌, ap, sym}
use Rattle.ob_c.specs.declared.transport.Transport.{Transport}
use Rattle.ob_c.proofs.Trying.{made}
use Rattle.ob_c.proofs.transport.Transport.rest.Goals as goal

pub returns-in-Some : goal.returns-in-Some
returns-in-Some c =
    made c.args.self.now.value _ c.in-Some.pressure c.reach.result.now c.try_rest.new.self
    (ap (λ (transport : Transport). transport.value) (sym c.is_open.ensures.1) ∙ c.reach.ensures.value) c.in-Some.ensures.under
