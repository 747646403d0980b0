use Rattle.std.proofs.Common.{◌∷◌, sym, ap, ◌∙◌}
use Rattle.atomic_table.specs.Table.{rest}
use Rattle.ob_shared_connection.specs.Steps.{carried_in}
use Rattle.ob_shared_connection.specs.Ruled.{table_of}
use Rattle.ob_shared_connection.proofs.caller.Caller.take.Goals as goal

pub slot_mut-carried-requires : goal.slot_mut-carried-requires
slot_mut-carried-requires c =
    let seat = c.args.self.now.seat in
    let slot = c.requires.holds.lock.slot in (
      c.args.self.now.seat_of ∙ ap table_of (sym c.deref.ensures),
      (carried_in seat.me.1, slot ∙ ap (λ slots. (0, carried_in seat.me.1) ∷ rest slots) (sym slot)),
    )
