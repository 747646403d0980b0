use Rattle.std.proofs.Common.{rules, refl, arith}
use Rattle.ob_types.specs.declared.promise.Outcome.TheVariants.{Success}
use Rattle.ob_shared.proofs.worked.worked_promises.Goals as goal

pub returns : goal.returns
returns c = (
  record { kept = refl; settled = refl },
  λ tells. absurd (cc tells.settled),
  search rules,
  λ never. never Success (search rules),
  omega arith,
  λ unknown. omega (arith, unknown),
)
