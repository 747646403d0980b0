use Rattle.ob_patterns.proofs.GivenUp.{closed_either_way}
use Rattle.ob_patterns.proofs.turns.give_up_broken.Goals as goal

pub returns-clause-closed : goal.returns-clause-closed
returns-clause-closed c =
    let given_up = c.give_up-failed in
    closed_either_way _ given_up.result c.stands_for_some_commands.ensures given_up.ensures.gives_up
    given_up.ensures.«open» given_up.ensures.refused
