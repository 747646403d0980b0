use Rattle.ob_lifecycle.proofs.Pending.{flush_counted}
use Rattle.ob_lifecycle.proofs.counted.flush_cancelled.Goals as goal

pub returns-then-is_ok-clause-counts : goal.returns-then-is_ok-clause-counts
returns-then-is_ok-clause-counts c =
    flush_counted c.args.connection.now c.flush-answer.new.self c.flush-answer.result c.args.tally.now c.void.new.self
    c.pending_in-before.result c.pending_in.result c.flush-answer.ensures.obeys (cc) c.pending_in-before.ensures
    c.pending_in.ensures c.void.ensures
