use Rattle.ob_shared.proofs.Seats.{still_reads}
use Rattle.ob_shared.proofs.reader.Reader.another.Goals as goal

pub invariant_of-self : goal.invariant_of-self
invariant_of-self g c =
    still_reads g.L.Named.opened c.self.inside.seat c.reader.new.seat c.reader.ensures.table c.self.invariant
    c.reader.ensures.me
