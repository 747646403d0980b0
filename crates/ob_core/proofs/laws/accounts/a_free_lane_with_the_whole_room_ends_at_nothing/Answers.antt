use Rattle.ob_core.proofs.AccountsLemmas.{nothing_left, mark_clear}
use Rattle.ob_core.proofs.laws.accounts.a_free_lane_with_the_whole_room_ends_at_nothing.Goals as goal

pub returns : goal.returns
returns c = record {
  total = λ grant core index lane accounts is_lane free whole.
      nothing_left grant core index lane accounts is_lane free whole;
  mark = λ grant core index lane accounts is_lane free whole positive.
      mark_clear grant core index lane accounts is_lane free whole positive;
}
