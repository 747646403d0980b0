use Rattle.std.proofs.Common.{ap}
use Rattle.ob_shared.specs.Published.{Knows}
use Rattle.ob_shared.proofs.Seats.{still_publishes}
use Rattle.ob_shared.proofs.words.Publisher.reader.Goals as goal

pub invariant_of-self : goal.invariant_of-self
invariant_of-self g c =
    still_publishes g.L.Named.opened c.self.inside.seat c.reader.new.seat c.reader.ensures.table
    c.self.inside.number c.self.invariant
    (ap (λ (me : Knows). me.0.publishes) c.reader.ensures.me) (ap (λ (me : Knows). me.0.seen) c.reader.ensures.me)
