use Rattle.ob_shared.proofs.Seats.{has_published}
use Rattle.ob_shared.proofs.words.Publisher.publish.Goals as goal

pub invariant_of-self : goal.invariant_of-self
invariant_of-self g c =
    has_published g.L.Named.opened c.self.inside.seat c.publish-self-inside.new.seat c.publish-self-inside.ensures.table
    c.args.recorded.now.records c.publish-self-inside.result c.self.invariant.is_one.table c.publish-self-inside.ensures.legal
    c.publish-self-inside.ensures.me c.publish-self-inside.ensures.number
