use Rattle.ob_types.specs.declared.command.Command.TheVariants.{UserBit}
use Rattle.ob_connection.proofs.Obeyed.{obeys_within, stays_within}
use Rattle.ob_connection.proofs.connection.Connection.user_bit.Goals as goal

pub invariant_of-self : goal.invariant_of-self
invariant_of-self c = stays_within (UserBit c.args.index c.args.writable) c.user_bit.ensures c.self.invariant

pub returns-clause-obeys : goal.returns-clause-obeys
returns-clause-obeys c =
    obeys_within (UserBit c.args.index c.args.writable) c.user_bit.ensures c.self.view_is
