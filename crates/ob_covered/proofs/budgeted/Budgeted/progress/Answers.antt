use Rattle.std.proofs.Common.{refl, sym, ap}
use Rattle.ob_types.specs.declared.command.Command.TheVariants.{Progress}
use Rattle.ob_connection.specs.Obeying.{done_reply}
use Rattle.ob_covered.proofs.Pending.{falls}
use Rattle.ob_covered.proofs.budgeted.Budgeted.progress.Goals as goal

pub settled-requires : goal.settled-requires
settled-requires c now is =
    falls c.self.inside.connection c.progress-answer.new.self (Progress c.args.n) done_reply c.progress-answer.result c.self.inside.cover.seat.account.held now refl c.stands_for_some_commands.ensures c.self.invariant c.progress-answer.ensures.obeys is

pub returns-clause-thrifty : goal.returns-clause-thrifty
returns-clause-thrifty c = c.settled.ensures.thrifty c.args.self.now (ap (λ v. v.cover) (sym c.self.view_is))
