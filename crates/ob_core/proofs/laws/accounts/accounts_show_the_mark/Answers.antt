use Rattle.ob_core.proofs.LawLemmas.{set_above, clear_below}
use Rattle.ob_core.proofs.laws.accounts.accounts_show_the_mark.Goals as goal

pub returns : goal.returns
returns c = record {
  above = λ grant core accounts ordered above.
      set_above grant core accounts.bytes.marks accounts.mark ordered above;
  below = λ grant core accounts ordered below.
      clear_below grant core accounts.bytes.marks accounts.mark ordered below;
}
