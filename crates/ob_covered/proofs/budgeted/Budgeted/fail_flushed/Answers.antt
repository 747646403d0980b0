use Rattle.std.proofs.Common.{refl, sym, ap}
use Rattle.ob_types.specs.declared.command.Command.TheVariants.{FailFlushed}
use Rattle.ob_connection.specs.Obeying.{taken_reply}
use Rattle.ob_covered.proofs.Pending.{falls}
use Rattle.ob_covered.proofs.budgeted.Budgeted.fail_flushed.Goals as goal

pub settled-requires : goal.settled-requires
settled-requires c now is =
    falls c.self.inside.connection c.fail_flushed-answer.new.self (FailFlushed c.args.cause c.args.notify) taken_reply c.fail_flushed-answer.result c.self.inside.cover.seat.account.held now refl c.stands_for_some_commands.ensures c.self.invariant c.fail_flushed-answer.ensures.obeys is

pub returns-clause-thrifty : goal.returns-clause-thrifty
returns-clause-thrifty c = c.settled.ensures.thrifty c.args.self.now (ap (λ v. v.cover) (sym c.self.view_is))
