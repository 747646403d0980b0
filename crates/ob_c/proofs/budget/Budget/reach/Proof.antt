-- `reach` is that of each holder.
use Rattle.ob_c.proofs.Holders.{budgets}
use Rattle.ob_c.proofs.Reaching.{reaches}
use Rattle.ob_c.specs.contracts.budget.Budget.reach.Key.{name}
use Rattle.ob_c.proofs.budget.Budget.reach.Statement.{statement}
use Rattle.ob_c.proofs.budget.Budget.reach.Code as code

pub reach_spec : {M : Type 1} → statement M
reach_spec 𝓤 𝓛 𝓜 𝓡 wired = reaches budgets 𝓤 𝓛 𝓜 𝓡 name (code.unfolded 𝓤 𝓛.H 𝓜 𝓡 wired)
