use Rattle.std.proofs.Common.{◌∙◌, ap, sym, rules}
use Rattle.ob_c.specs.declared.shared.Shared.{Shared}
use Rattle.ob_c.proofs.Another.{another_of}
use Rattle.ob_c.proofs.shares.limekeel_shared_another.Goals as goal

pub returns : goal.returns
returns c =
    another_of c.reach.result.now c.another.new.self c.args.shared.now.value c.args.second.now.value c.another.result
    c.keep_another.result c.keep_another.new.second.value
    (ap (λ (shared : Shared). shared.value) (sym c.is_open.ensures.1) ∙ c.reach.ensures.value) (search rules)
    c.another.ensures.other c.another.ensures.shares c.another.ensures.same c.keep_another.ensures
