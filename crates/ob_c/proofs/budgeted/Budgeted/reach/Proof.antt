-- `reach` is that of each holder.
use Rattle.ob_c.proofs.Holders.{covereds}
use Rattle.ob_c.proofs.Reaching.{reaches}
use Rattle.ob_c.specs.contracts.budgeted.Budgeted.reach.Key.{name}
use Rattle.ob_c.proofs.budgeted.Budgeted.reach.Statement.{statement}
use Rattle.ob_c.proofs.budgeted.Budgeted.reach.Code as code

pub reach_spec : {M : Type 1} → statement M
reach_spec 𝓤 𝓛 𝓜 𝓡 wired = reaches covereds 𝓤 𝓛 𝓜 𝓡 name (code.unfolded 𝓤 𝓛.H 𝓜 𝓡 wired)
