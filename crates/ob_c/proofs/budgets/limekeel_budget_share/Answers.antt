use Rattle.std.proofs.Common.{◌∙◌, ap, sym, rules}
use Rattle.ob_c.specs.declared.budget.Budget.{Budget}
use Rattle.ob_c.proofs.Cutting.{share_of}
use Rattle.ob_c.proofs.budgets.limekeel_budget_share.Goals as goal

pub returns : goal.returns
returns c =
    share_of c.reach.result.now c.share.new.self c.args.budget.now.value c.args.second.now.value c.share.result
    c.keep_share.result c.keep_share.new.second.value
    (ap (λ (budget : Budget). budget.value) (sym c.is_open.ensures.1) ∙ c.reach.ensures.value) (search rules)
    c.share.ensures.given c.share.ensures.kept c.share.ensures.refused c.keep_share.ensures
