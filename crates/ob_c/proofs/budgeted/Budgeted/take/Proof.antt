-- `take` is that of each holder.
use Rattle.ob_c.proofs.Holders.{covereds}
use Rattle.ob_c.proofs.Taking.{takes}
use Rattle.ob_c.specs.contracts.budgeted.Budgeted.take.Key.{name}
use Rattle.ob_c.proofs.budgeted.Budgeted.take.Statement.{statement}
use Rattle.ob_c.proofs.budgeted.Budgeted.take.Code as code

pub take_spec : {M : Type 1} → statement M
take_spec 𝓤 𝓛 𝓜 𝓡 wired = takes covereds 𝓤 𝓛 𝓜 𝓡 name (code.unfolded 𝓤 𝓛.H 𝓜 𝓡 wired)
