use Rattle.ob_lifecycle.proofs.Pending.{gives_up_counted}
use Rattle.ob_lifecycle.proofs.counted.give_up.Goals as goal

pub returns-then-is_ok-clause-counts : goal.returns-then-is_ok-clause-counts
returns-then-is_ok-clause-counts c =
    gives_up_counted c.args.connection.now c.give_up-answer.new.self c.args.cause c.give_up-answer.result c.args.tally.now
    c.fail.new.self c.pending_in-before.result c.pending_in.result c.give_up-answer.ensures.gives_up (cc)
    c.pending_in-before.ensures c.pending_in.ensures c.fail.ensures
