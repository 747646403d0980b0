use Rattle.ob_shared_connection.specs.Steps.{caller_held}
use Rattle.ob_shared_connection.proofs.Sending.{takes_away}
use Rattle.ob_shared_connection.proofs.caller.Caller.take_away.Goals as goal

pub returns-clause-takes : goal.returns-clause-takes
returns-clause-takes c =
    takes_away c.args.bytes c.args.blocked c.in-Ok.taken (caller_held c.args.self.now) (caller_held c.act.new.self)
    (caller_held c.ask-more.new.self) c.ask-more.result c.in-Ok.ensures.call c.ask-more.ensures.look.shows
    c.ask-more.ensures.look.same
