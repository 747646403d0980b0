use Rattle.std.proofs.Common.{◌∙◌, ap, sym}
use Rattle.ob_c.specs.declared.shared.Shared.{Shared}
use Rattle.ob_c.proofs.Trying.{obeyed}
use Rattle.ob_c.proofs.shared.Shared.obey.Goals as goal

pub returns-in-Ok : goal.returns-in-Ok
returns-in-Ok g c =
    obeyed c.args.self.now.value _ c.accepted.result c.reach.result.now c.try_act.new.self c.in-Ok.answer
    (ap (λ (shared : Shared). shared.value) (sym c.is_open.ensures.1) ∙ c.reach.ensures.value) c.accepted.ensures
    c.in-Ok.ensures.under
