use Rattle.std.proofs.Common.{refl}
use Rattle.ob_shared_connection.specs.Steps.{Awaits}
use Rattle.ob_shared_connection.proofs.Ringing.{at_bell, may_await}
use Rattle.ob_shared_connection.proofs.shared.Shared.await_bell.Goals as goal

pub store-requires : goal.store-requires
store-requires g c =
    let shared = c.args.self.now in
    let slots = shared.table.shared.table_id.slots in
    let seat = c.args.seat.now in
    let waiter = g.B.Bell.waiter in
    at_bell shared seat waiter c.word.result (λ _. 1) (λ _. Awaits waiter seat.me 1) c.requires.table c.word.ensures.is
    c.word.ensures.within (may_await slots seat.id seat.me waiter c.requires.lock 1 refl)
