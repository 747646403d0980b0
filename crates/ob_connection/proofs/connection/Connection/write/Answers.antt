use Rattle.ob_types.specs.declared.command.Command.TheVariants.{Write}
use Rattle.ob_connection.proofs.Asking.{refused_moves}
use Rattle.ob_connection.proofs.Obeyed.{obeys}
use Rattle.ob_connection.proofs.connection.Connection.write.Goals as goal

pub returns-in-Err-clause-obeys : goal.returns-in-Err-clause-obeys
returns-in-Err-clause-obeys c = obeys (Write c.args.message) (refused_moves c.args.message c.in-Err.ensures)
