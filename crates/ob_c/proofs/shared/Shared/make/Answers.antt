use Rattle.std.proofs.Common.{◌∙◌, ap, sym}
use Rattle.ob_c.specs.declared.shared.Shared.{Shared}
use Rattle.ob_c.proofs.Trying.{made}
use Rattle.ob_c.proofs.shared.Shared.make.Goals as goal

pub returns-in-Ok : goal.returns-in-Ok
returns-in-Ok g c =
    made c.args.self.now.value _ c.in-Ok.answer c.reach.result.now c.try_act.new.self
    (ap (λ (shared : Shared). shared.value) (sym c.is_open.ensures.1) ∙ c.reach.ensures.value) c.in-Ok.ensures.under
