use Rattle.ob_lifecycle.proofs.Pending.{flush_plain}
use Rattle.ob_lifecycle.proofs.counted.flush.Goals as goal

pub returns-clause-counts : goal.returns-clause-counts
returns-clause-counts c = flush_plain c.args.connection.now c.args.tally.now c.flush.result c.if-tally.false
