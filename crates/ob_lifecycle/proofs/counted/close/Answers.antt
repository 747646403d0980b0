use Rattle.std.proofs.Common.{refl}
use Rattle.ob_types.specs.declared.command.Command.TheVariants.{Close}
use Rattle.ob_connection.specs.Obeying.{taken_reply}
use Rattle.ob_lifecycle.proofs.Tallies.{cancels_step, fails_counted}
use Rattle.ob_lifecycle.proofs.counted.close.Goals as goal

pub returns-then-is_ok-clause-counts : goal.returns-then-is_ok-clause-counts
returns-then-is_ok-clause-counts c =
    fails_counted c.args.connection.now c.close-answer.new.self (Close c.args.cause) taken_reply c.close-answer.result c.args.tally.now c.fail.new.self
    c.pending_in-before.result c.pending_in.result c.close-answer.ensures.obeys (cc) refl refl (λ commands. refl) (λ commands. refl)
    (λ commands. cancels_step commands (Close c.args.cause)) c.pending_in-before.ensures c.pending_in.ensures c.fail.ensures
