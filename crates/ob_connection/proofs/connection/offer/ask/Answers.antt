use Rattle.ob_connection.proofs.Offered.{joined}
use Rattle.ob_connection.proofs.connection.offer.ask.Goals as goal

pub returns-in-Ok-clause-within : goal.returns-in-Ok-clause-within
returns-in-Ok-clause-within g c = rw (joined c.args.pieces.now) at c.in-Ok.ensures.within

pub returns-in-Ok-clause-sent : goal.returns-in-Ok-clause-sent
returns-in-Ok-clause-sent g c = rw (joined c.args.pieces.now) at c.in-Ok.ensures.taken
