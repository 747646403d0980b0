-- `is_open` is that of each holder.
use Rattle.ob_c.proofs.Holders.{covereds}
use Rattle.ob_c.proofs.Testing.{tests}
use Rattle.ob_c.specs.contracts.budgeted.Budgeted.is_open.Key.{name}
use Rattle.ob_c.proofs.budgeted.Budgeted.is_open.Statement.{statement}
use Rattle.ob_c.proofs.budgeted.Budgeted.is_open.Code as code

pub is_open_spec : {M : Type 1} → statement M
is_open_spec 𝓤 𝓛 𝓜 𝓡 wired = tests covereds 𝓤 𝓛 𝓜 𝓡 name (code.unfolded 𝓤 𝓛.H 𝓜 𝓡 wired)
