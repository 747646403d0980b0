use Rattle.std.proofs.Common.{rules}
use Rattle.ob_patterns.proofs.Cut.{says_of_other}
use Rattle.ob_patterns.proofs.urgent.send_urgent_first.Goals as goal

pub returns-in-Some-clause-sends : goal.returns-in-Some-clause-sends
returns-in-Some-clause-sends g c = search rules

pub returns-in-Some-clause-says : goal.returns-in-Some-clause-says
returns-in-Some-clause-says g c = says_of_other _ _ c.in-Some.next c.in-Some.ensures.unrest c.in-Some.ensures.says

pub returns-then-not-matches-clause-sends : goal.returns-then-not-matches-clause-sends
returns-then-not-matches-clause-sends g c = search rules

pub returns-clause-sends : goal.returns-clause-sends
returns-clause-sends g c = search rules
