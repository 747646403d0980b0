use Rattle.ob_shared_connection.specs.Steps.{Hears}
use Rattle.ob_shared_connection.proofs.Ringing.{at_bell, may_hear}
use Rattle.ob_shared_connection.proofs.shared.Shared.is_silent.Goals as goal

pub load-requires : goal.load-requires
load-requires g c =
    let shared = c.args.self.now in
    let slots = shared.table.shared.table_id.slots in
    let seat = c.args.seat.now in
    let waiter = g.B.Bell.waiter in
    at_bell shared seat waiter c.word.result (λ n. n) (Hears waiter seat.me) c.requires.table c.word.ensures.is
    c.word.ensures.within (may_hear slots seat.id seat.me waiter c.requires.lock)
