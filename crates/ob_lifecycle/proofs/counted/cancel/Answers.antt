use Rattle.ob_lifecycle.proofs.Pending.{cancel_counted}
use Rattle.ob_lifecycle.proofs.counted.cancel.Goals as goal

pub returns-then-is_ok-clause-counts : goal.returns-then-is_ok-clause-counts
returns-then-is_ok-clause-counts c = cancel_counted c.args.connection.now c.args.id c.cancel-answer.result c.args.tally.now (cc)
