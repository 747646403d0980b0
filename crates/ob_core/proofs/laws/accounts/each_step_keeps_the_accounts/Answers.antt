use Rattle.std.proofs.Common.{sym, subst}
use Rattle.ob_core.specs.World.{AccountsHold}
use Rattle.ob_core.proofs.AccountsLemmas.{AccountsHold-step}
use Rattle.ob_core.proofs.laws.accounts.each_step_keeps_the_accounts.Goals as goal

pub returns : goal.returns
returns c = record {
  kept = λ grant old new index step made accounts. subst (AccountsHold grant) (sym made.after)
      (AccountsHold-step grant old index made.lane step made.is_lane made.allowed accounts);
}
