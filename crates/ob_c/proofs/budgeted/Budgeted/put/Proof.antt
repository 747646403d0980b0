-- `put` is that of each holder.
use Rattle.ob_c.proofs.Holders.{covereds}
use Rattle.ob_c.proofs.Putting.{puts}
use Rattle.ob_c.specs.contracts.budgeted.Budgeted.put.Key.{name}
use Rattle.ob_c.proofs.budgeted.Budgeted.put.Statement.{statement}
use Rattle.ob_c.proofs.budgeted.Budgeted.put.Code as code

pub put_spec : {M : Type 1} → statement M
put_spec 𝓤 𝓛 𝓜 𝓡 wired = puts covereds 𝓤 𝓛 𝓜 𝓡 name (code.unfolded 𝓤 𝓛.H 𝓜 𝓡 wired)
