-- `reach` is that of each holder.
use Rattle.ob_c.proofs.Holders.{handles}
use Rattle.ob_c.proofs.Reaching.{reaches}
use Rattle.ob_c.specs.contracts.handle.Handle.reach.Key.{name}
use Rattle.ob_c.proofs.handle.Handle.reach.Statement.{statement}
use Rattle.ob_c.proofs.handle.Handle.reach.Code as code

pub reach_spec : {M : Type 1} → statement M
reach_spec 𝓤 𝓛 𝓜 𝓡 wired = reaches handles 𝓤 𝓛 𝓜 𝓡 name (code.unfolded 𝓤 𝓛.H 𝓜 𝓡 wired)
