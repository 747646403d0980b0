use Rattle.std.proofs.Common.{sym, ap}
use Rattle.ob_covered.proofs.Pending.{falls_given_up}
use Rattle.ob_covered.proofs.budgeted.Budgeted.give_up.Goals as goal

pub settled-requires : goal.settled-requires
settled-requires c now is =
    falls_given_up c.self.inside.connection c.give_up-answer.new.self c.args.cause c.give_up-answer.result c.self.inside.cover.seat.account.held now c.stands_for_some_commands.ensures c.self.invariant c.give_up-answer.ensures.gives_up c.give_up-answer.ensures.refused is

pub returns-clause-thrifty : goal.returns-clause-thrifty
returns-clause-thrifty c = c.settled.ensures.thrifty c.args.self.now (ap (λ v. v.cover) (sym c.self.view_is))
