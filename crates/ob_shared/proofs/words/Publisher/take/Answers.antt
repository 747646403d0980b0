use Rattle.std.proofs.Common.{sym, ◌∙◌}
use Rattle.ob_shared.proofs.Seats.{still_publishes}
use Rattle.ob_shared.proofs.words.Publisher.take.Goals as goal

pub invariant_of-self : goal.invariant_of-self
invariant_of-self g c =
    still_publishes g.L.Named.opened c.self.inside.seat c.take.new.seat c.take.ensures.table
    c.self.inside.number c.self.invariant
    (c.take.ensures.publishes ∙ sym c.self.invariant.is_one.publishes) c.take.ensures.seen
