use Rattle.std.proofs.Common.{refl, Ok}
use Rattle.ob_types.specs.declared.command.Command.TheVariants.{Write}
use Rattle.ob_connection.specs.Obeying.{written_reply}
use Rattle.ob_shared_connection.proofs.Accepting.{accepts_obeyed}
use Rattle.ob_shared_connection.proofs.commands.WriteAct.act.Goals as goal

pub returns-in-Ok-clause-fits : goal.returns-in-Ok-clause-fits
returns-in-Ok-clause-fits c bytes is ok before now within =
    c.room_lacks.ensures.fits c.if-room_lacks.false bytes is
    (accepts_obeyed c.args.connection.now c.write.new.self (Write c.args.self.0) written_reply (Ok c.in-Ok.written) refl
    c.in-Ok.ensures.obeys) before now within
