use Rattle.ob_covered.proofs.Written.{grows}
use Rattle.ob_covered.proofs.budgeted.write.put.Goals as goal

pub returns-in-Ok-clause-grown : goal.returns-in-Ok-clause-grown
returns-in-Ok-clause-grown c =
    grows c.args.connection.now c.write.new.self c.args.message c.in-Ok.written c.look-look.result
    c.stands_for_some_commands.ensures c.in-Ok.ensures.obeys c.look-look.ensures
