use Rattle.ob_core.proofs.AccountsLemmas.{shown-held}
use Rattle.ob_core.proofs.laws.accounts.accounts_show_held_bits.Goals as goal

pub returns : goal.returns
returns c = record {
  shown = λ grant core index lane bit accounts is_lane held.
      shown-held grant core index lane bit accounts.bits is_lane held;
}
