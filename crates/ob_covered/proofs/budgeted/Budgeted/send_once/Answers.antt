use Rattle.std.proofs.Common.{sym, ap}
use Rattle.ob_covered.proofs.Pending.{falls_once}
use Rattle.ob_covered.proofs.budgeted.Budgeted.send_once.Goals as goal

pub settled-requires : goal.settled-requires
settled-requires g c now is =
    falls_once _ _ _ _ c.self.inside.connection c.send_once-answer.new.self c.send_once-answer.result c.self.inside.cover.seat.account.held now c.stands_for_some_commands.ensures c.self.invariant c.send_once-answer.ensures.sends c.send_once-answer.ensures.kept is

pub returns-clause-thrifty : goal.returns-clause-thrifty
returns-clause-thrifty g c = c.settled.ensures.thrifty c.args.self.now (ap (λ v. v.cover) (sym c.self.view_is))
