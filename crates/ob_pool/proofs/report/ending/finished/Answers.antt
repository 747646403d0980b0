use Rattle.std.proofs.Common.{◌≡◌, ◌++◌, [], ◌∷◌, length, ap, subst, ◌∙◌}
use Rattle.std.specs.List.{All}
use Rattle.ob_shared.specs.Calls.{Handed}
use Rattle.ob_pool.proofs.Counted.{none_short}
use Rattle.ob_pool.proofs.report.ending.finished.Goals as goal

pub returns-in-Ok-clause-made : goal.returns-in-Ok-clause-made
returns-in-Ok-clause-made g c =
    subst (All (λ (one : Handed). one.maker.made ≡ length one.receipts))
    (c.push_reserved.ensures.items ∙ ap (λ items. items ++ c.args.done ∷ []) c.reserve.ensures.items)
    (none_short c.push_reserved.new.self.items
    (λ caller is. (c.in-Ok.ensures.short (λ lacks. c.in-Ok.ensures.missing.1 lacks) caller).1 is))
