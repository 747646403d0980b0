use Rattle.ob_types.specs.declared.command.Command.TheVariants.{Progress}
use Rattle.ob_connection.proofs.Obeyed.{obeys_within, stays_within}
use Rattle.ob_connection.proofs.connection.Connection.progress.Goals as goal

pub invariant_of-self : goal.invariant_of-self
invariant_of-self c = stays_within (Progress c.args.n) c.progress.ensures c.self.invariant

pub returns-clause-obeys : goal.returns-clause-obeys
returns-clause-obeys c =
    obeys_within (Progress c.args.n) c.progress.ensures c.self.view_is
