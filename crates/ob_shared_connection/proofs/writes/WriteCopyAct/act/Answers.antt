use Rattle.std.proofs.Common.{refl, rules, Ok}
use Rattle.ob_types.specs.declared.command.Command.TheVariants.{Write}
use Rattle.ob_types.specs.declared.message.Message.TheVariants.{Block}
use Rattle.ob_connection.specs.Obeying.{written_reply}
use Rattle.ob_shared_connection.proofs.Accepting.{accepts_obeyed}
use Rattle.ob_shared_connection.proofs.writes.WriteCopyAct.act.Goals as goal

pub returns-in-Ok-clause-fits : goal.returns-in-Ok-clause-fits
returns-in-Ok-clause-fits c bytes is ok before now within =
    c.room_lacks_block.ensures.fits c.if-room_lacks_block.false bytes is (Block c.args.self.0.now)
    (record { counts = refl; short = refl })
    (accepts_obeyed c.args.connection.now c.write_copy.new.self (Write (Block c.args.self.0.now)) written_reply (Ok c.in-Ok.written)
    refl c.in-Ok.ensures.obeys) before now within

pub returns-then-room_lacks_block-clause-does : goal.returns-then-room_lacks_block-clause-does
returns-then-room_lacks_block-clause-does c =
    let lacks = c.if-room_lacks_block.ensures.lacks refl (Block c.args.self.0.now)
    (record { counts = refl; short = refl }) in
    let accepts = lacks.accepted in search rules

pub returns-then-room_lacks_block-clause-lacks : goal.returns-then-room_lacks_block-clause-lacks
returns-then-room_lacks_block-clause-lacks c uncovered =
    c.if-room_lacks_block.ensures.lacks refl (Block c.args.self.0.now) (record { counts = refl; short = refl })
