-- `take` is that of each holder.
use Rattle.ob_c.proofs.Holders.{managers}
use Rattle.ob_c.proofs.Taking.{takes}
use Rattle.ob_c.specs.contracts.managed.Managed.take.Key.{name}
use Rattle.ob_c.proofs.managed.Managed.take.Statement.{statement}
use Rattle.ob_c.proofs.managed.Managed.take.Code as code

pub take_spec : {M : Type 1} → statement M
take_spec 𝓤 𝓛 𝓜 𝓡 wired = takes managers 𝓤 𝓛 𝓜 𝓡 name (code.unfolded 𝓤 𝓛.H 𝓜 𝓡 wired)
