use Rattle.ob_core.proofs.LawLemmas.{AccountsHold-turn}
use Rattle.ob_core.proofs.laws.accounts.each_turn_keeps_the_accounts.Goals as goal

pub returns : goal.returns
returns c = record { kept = λ grant core turn accounts. AccountsHold-turn grant core turn accounts }
