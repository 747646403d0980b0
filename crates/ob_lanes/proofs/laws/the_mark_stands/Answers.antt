use Rattle.ob_core.proofs.LawLemmas.{set_above, clear_below}
use Rattle.ob_lanes.proofs.KeptAccounts.{accounts_after_run}
use Rattle.ob_lanes.proofs.laws.the_mark_stands.Goals as goal

pub returns : goal.returns
returns c = record {
  above = λ grant moves core mark ordered leads above.
      let accounts = accounts_after_run grant moves core mark leads in
      set_above grant core accounts.bytes.marks accounts.mark ordered above;
  below = λ grant moves core mark ordered leads below.
      let accounts = accounts_after_run grant moves core mark leads in
      clear_below grant core accounts.bytes.marks accounts.mark ordered below;
}
