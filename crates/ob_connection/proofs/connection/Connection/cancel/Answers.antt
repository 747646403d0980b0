use Rattle.ob_types.specs.declared.command.Command.TheVariants.{Cancel}
use Rattle.ob_seq.specs.Steps.Commands.{cancel_step}
use Rattle.ob_connection.specs.Obeying.{cancelled_reply}
use Rattle.ob_connection.proofs.Steps.{made_within}
use Rattle.ob_connection.proofs.Obeyed.{obeys, stays}
use Rattle.ob_connection.proofs.connection.Connection.cancel.Goals as goal

pub invariant_of-self : goal.invariant_of-self
invariant_of-self c =
    stays (Cancel (record { 0 = c.args.id }))
    (made_within (cancel_step c.args.id) (cancelled_reply c.args.id) c.cancel.new.self c.cancel.result
    (λ past. c.cancel.ensures.makes past.outcomes past.count) c.cancel.ensures.refused) c.self.invariant

pub returns-clause-obeys : goal.returns-clause-obeys
returns-clause-obeys c = rw (← c.self.view_is)
    (obeys (Cancel (record { 0 = c.args.id }))
    (made_within (cancel_step c.args.id) (cancelled_reply c.args.id) c.cancel.new.self c.cancel.result
    (λ past. c.cancel.ensures.makes past.outcomes past.count) c.cancel.ensures.refused))
