use Rattle.ob_core.proofs.AccountsLemmas.{owed_by-le-total, total-le-outside}
use Rattle.ob_core.proofs.laws.accounts.accounts_bound_the_total.Goals as goal

pub returns : goal.returns
returns c = record {
  least = λ grant core index lane accounts is_lane. owed_by-le-total grant core index lane accounts.bytes is_lane;
  most = λ grant core index lane accounts is_lane. total-le-outside grant core index lane accounts.bytes is_lane;
}
