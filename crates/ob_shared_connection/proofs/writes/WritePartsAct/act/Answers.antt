use Rattle.std.proofs.Common.{refl, Ok}
use Rattle.ob_types.specs.declared.command.Command.TheVariants.{Write}
use Rattle.ob_types.specs.declared.message.Message.TheVariants.{Block}
use Rattle.ob_connection.specs.Obeying.{joined, written_reply}
use Rattle.ob_shared_connection.proofs.Accepting.{accepts_obeyed}
use Rattle.ob_shared_connection.proofs.writes.WritePartsAct.act.Goals as goal

pub returns-in-Ok-clause-fits : goal.returns-in-Ok-clause-fits
returns-in-Ok-clause-fits c bytes is ok before now within =
    c.room_lacks_parts.ensures.fits c.if-room_lacks_parts.false bytes is
    (accepts_obeyed c.args.connection.now c.write_parts.new.self (Write (Block (joined c.args.self.0.now))) written_reply
    (Ok c.in-Ok.written) refl c.in-Ok.ensures.obeys) before now within
