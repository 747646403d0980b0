use Rattle.std.proofs.Common.{sym, subst}
use Rattle.ob_core.specs.World.{AccountsHold}
use Rattle.ob_core.proofs.PartLemmas.{AccountsHold-division}
use Rattle.ob_core.proofs.laws.accounts.a_division_keeps_the_accounts.Goals as goal

pub returns : goal.returns
returns c = record {
  kept = λ grant old new index kept given made accounts. subst (AccountsHold grant) (sym made.after)
      (AccountsHold-division grant old index made.lane kept given made.is_lane made.parts accounts);
}
