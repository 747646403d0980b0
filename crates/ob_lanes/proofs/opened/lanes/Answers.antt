use Rattle.std.proofs.Common.{refl, rules}
use Rattle.ob_lanes.proofs.Views.{first_ended}
use Rattle.ob_lanes.proofs.opened.lanes.Goals as goal

pub of_words-requires : goal.of_words-requires
of_words-requires c = record {
  sixteen = refl;
  one_grant = search rules;
  accounts = search rules;
  run = search rules;
  owner = λ seat. seat;
  taken = first_ended (λ seat. seat) _ refl;
}

-- Named for the must-fail edits that fail here: `search` finds it unasked (CONTRIBUTING.md).
pub invariant_of-result : goal.invariant_of-result
invariant_of-result c = search rules

pub returns-clause-words : goal.returns-clause-words
returns-clause-words c = search rules
