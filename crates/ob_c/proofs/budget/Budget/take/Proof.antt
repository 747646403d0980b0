-- `take` is that of each holder.
use Rattle.ob_c.proofs.Holders.{budgets}
use Rattle.ob_c.proofs.Taking.{takes}
use Rattle.ob_c.specs.contracts.budget.Budget.take.Key.{name}
use Rattle.ob_c.proofs.budget.Budget.take.Statement.{statement}
use Rattle.ob_c.proofs.budget.Budget.take.Code as code

pub take_spec : {M : Type 1} → statement M
take_spec 𝓤 𝓛 𝓜 𝓡 wired = takes budgets 𝓤 𝓛 𝓜 𝓡 name (code.unfolded 𝓤 𝓛.H 𝓜 𝓡 wired)
