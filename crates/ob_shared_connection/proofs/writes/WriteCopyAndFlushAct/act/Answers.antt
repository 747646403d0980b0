use Rattle.ob_types.specs.declared.message.Message.TheVariants.{Block}
use Rattle.ob_shared_connection.proofs.Flushing.{write_and_flush_go_on}
use Rattle.std.proofs.Common.{refl, rules, Ok}
use Rattle.ob_types.specs.declared.command.Command.TheVariants.{Write}
use Rattle.ob_connection.specs.Obeying.{written_reply}
use Rattle.ob_shared_connection.proofs.Accepting.{accepts_obeyed, passes_flushed}
use Rattle.ob_shared_connection.proofs.writes.WriteCopyAndFlushAct.act.Goals as goal

pub returns-clause-goes_on : goal.returns-clause-goes_on
returns-clause-goes_on c =
    write_and_flush_go_on c.args.connection.now c.act.new.connection c.flush_behind-flushed.new.connection (Block c.args.self.0.now)
    c.in_ok-written.written c.flush_behind-flushed.result c.in_ok-written.ensures.does c.flush_behind-flushed.ensures

pub returns-clause-fits : goal.returns-clause-fits
returns-clause-fits c bytes is ok before now within =
    c.room_lacks_block.ensures.fits c.if-room_lacks_block.false bytes is (Block c.args.self.0.now)
    (record { counts = refl; short = refl })
    (accepts_obeyed c.args.connection.now c.act.new.connection (Write (Block c.args.self.0.now)) written_reply
    (Ok c.in_ok-written.written) refl c.in_ok-written.ensures.does) before now within

pub returns-then-room_lacks_block-clause-does : goal.returns-then-room_lacks_block-clause-does
returns-then-room_lacks_block-clause-does c =
    let lacks = c.if-room_lacks_block.ensures.lacks refl (Block c.args.self.0.now)
    (record { counts = refl; short = refl }) in
    let accepts = lacks.accepted in search rules

pub returns-then-room_lacks_block-clause-lacks : goal.returns-then-room_lacks_block-clause-lacks
returns-then-room_lacks_block-clause-lacks c uncovered =
    passes_flushed c.args.connection.now (Block c.args.self.0.now) c.args.room
    (c.if-room_lacks_block.ensures.lacks refl (Block c.args.self.0.now) (record { counts = refl; short = refl }))
