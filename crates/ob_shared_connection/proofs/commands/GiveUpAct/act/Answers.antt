use Rattle.ob_shared_connection.proofs.GivingUp.{gives_up_goes_on}
use Rattle.ob_shared_connection.proofs.commands.GiveUpAct.act.Goals as goal

pub returns-clause-goes_on : goal.returns-clause-goes_on
returns-clause-goes_on c =
    gives_up_goes_on c.args.connection.now c.args.self.0 c.give_up.result c.give_up.new.self c.give_up.ensures.gives_up
