use Rattle.ob_shared_connection.specs.Values.{cover_of}
use Rattle.ob_shared_connection.proofs.Growing.{still_under}
use Rattle.ob_shared_connection.proofs.carried.Carried.act.Goals as goal

pub returns-clause-under : goal.returns-clause-under
returns-clause-under g c =
    still_under c.args.self.now.connection c.act-answer.new.connection (g.A.Act.commands c.args.act) (cover_of c.args.self.now)
    c.room-room.result c.look-before.result c.look-after.result c.act-answer.result c.stands_for_some_commands.ensures
    c.look-before.ensures c.look-after.ensures c.room-room.ensures c.requires c.act-answer.ensures.goes_on
    c.act-answer.ensures.refused c.act-answer.ensures.fits
