use Rattle.std.proofs.Common.{refl}
use Rattle.ob_types.specs.declared.command.Command.TheVariants.{FailFlushed}
use Rattle.ob_connection.specs.Obeying.{taken_reply}
use Rattle.ob_lifecycle.proofs.Tallies.{cancels_step, fails_counted}
use Rattle.ob_lifecycle.proofs.counted.fail_flushed.Goals as goal

pub returns-then-is_ok-clause-counts : goal.returns-then-is_ok-clause-counts
returns-then-is_ok-clause-counts c =
    fails_counted c.args.connection.now c.fail_flushed-answer.new.self (FailFlushed c.args.cause c.args.notify) taken_reply c.fail_flushed-answer.result c.args.tally.now c.fail.new.self
    c.pending_in-before.result c.pending_in.result c.fail_flushed-answer.ensures.obeys (cc) refl refl (λ commands. refl) (λ commands. refl)
    (λ commands. cancels_step commands (FailFlushed c.args.cause c.args.notify)) c.pending_in-before.ensures c.pending_in.ensures c.fail.ensures
