use Rattle.std.proofs.Common.{◌≡◌}
use Rattle.ob_shared_connection.specs.Ruled.{silenced, hearing_view}
use Rattle.ob_shared_connection.proofs.Ringing.{at_bell, may_silence}
use Rattle.ob_shared_connection.proofs.shared.Shared.silence.Goals as goal

pub store-requires : goal.store-requires
store-requires g c =
    let shared = c.args.self.now in
    let slots = shared.table.shared.table_id.slots in
    let seat = c.args.seat.now in
    let waiter = g.B.Bell.waiter in
    at_bell shared seat waiter c.word.result (λ _. 0)
    (λ _ new. new ≡ (hearing_view (silenced waiter seat.me.0.bells) seat.me.0, seat.me.1)) c.requires.table c.word.ensures.is
    c.word.ensures.within (may_silence slots seat.id seat.me waiter c.requires.lock)
