use Rattle.ob_core.proofs.LawLemmas.{BytesAgree-all}
use Rattle.ob_core.proofs.laws.total_is_the_sum_owed.Goals as goal

pub returns : goal.returns
returns c = record { counted = λ marks starts turns. (BytesAgree-all marks starts turns).total }
