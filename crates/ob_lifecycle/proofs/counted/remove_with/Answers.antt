use Rattle.std.proofs.Common.{refl}
use Rattle.ob_types.specs.declared.command.Command.TheVariants.{RemoveWith}
use Rattle.ob_connection.specs.Obeying.{removed_reply}
use Rattle.ob_lifecycle.proofs.Tallies.{cancels_step, fails_counted}
use Rattle.ob_lifecycle.proofs.counted.remove_with.Goals as goal

pub returns-then-is_ok-clause-counts : goal.returns-then-is_ok-clause-counts
returns-then-is_ok-clause-counts c =
    fails_counted c.args.connection.now c.remove_with-answer.new.self (RemoveWith c.args.cause) removed_reply c.remove_with-answer.result c.args.tally.now c.fail.new.self
    c.pending_in-before.result c.pending_in.result c.remove_with-answer.ensures.obeys (cc) refl refl (λ commands. refl) (λ commands. refl)
    (λ commands. cancels_step commands (RemoveWith c.args.cause)) c.pending_in-before.ensures c.pending_in.ensures c.fail.ensures
