use Rattle.std.proofs.Common.{◌∙◌, ap, sym}
use Rattle.ob_c.specs.declared.shared.Shared.{Shared}
use Rattle.ob_c.proofs.Trying.{made}
use Rattle.ob_c.proofs.shared.Shared.held.Goals as goal

pub returns-in-Some : goal.returns-in-Some
returns-in-Some c =
    made c.args.self.now.value _ c.in-Some.held c.reach.result.now c.try_held.new.self
    (ap (λ (shared : Shared). shared.value) (sym c.is_open.ensures.1) ∙ c.reach.ensures.value) c.in-Some.ensures.under
