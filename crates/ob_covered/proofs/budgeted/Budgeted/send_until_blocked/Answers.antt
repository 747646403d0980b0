use Rattle.std.proofs.Common.{ap, sym}
use Rattle.ob_covered.proofs.Pending.{falls_in_turns}
use Rattle.ob_covered.proofs.budgeted.Budgeted.send_until_blocked.Goals as goal

pub settled-requires : goal.settled-requires
settled-requires g c now is =
    falls_in_turns _ _ _ _ _ _ c.self.inside.connection c.send_until_blocked-answer.new.self c.send_until_blocked-answer.result c.self.inside.cover.seat.account.held now c.stands_for_some_commands.ensures c.self.invariant c.send_until_blocked-answer.ensures.sends c.send_until_blocked-answer.ensures.kept is

pub returns-clause-thrifty : goal.returns-clause-thrifty
returns-clause-thrifty g c = c.settled.ensures.thrifty c.args.self.now (ap (λ v. v.cover) (sym c.self.view_is))
