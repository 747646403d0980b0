use Rattle.std.proofs.Common.{sym, subst}
use Rattle.ob_core.specs.World.{AccountsHold}
use Rattle.ob_core.proofs.PartLemmas.{AccountsHold-merger}
use Rattle.ob_core.proofs.laws.accounts.a_merger_keeps_the_accounts.Goals as goal

pub returns : goal.returns
returns c = record {
  kept = λ grant old new index other both made accounts. subst (AccountsHold grant) (sym made.after)
      (AccountsHold-merger grant old index other made.lane made.other_lane both
      (record { is_lane = made.is_lane; is_other = made.is_other; apart = made.apart }) made.parts accounts);
}
