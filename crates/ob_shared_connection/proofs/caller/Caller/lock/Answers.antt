use Rattle.std.proofs.Common.{sym, subst}
use Rattle.atomic_table.specs.Seated.{TableId}
use Rattle.ob_shared_connection.specs.Calls.{IsLock}
use Rattle.ob_shared_connection.specs.Steps.{handle_of, held_of}
use Rattle.ob_shared_connection.proofs.Told.{is_lock}
use Rattle.ob_shared_connection.proofs.caller.Caller.lock.Goals as goal

pub returns-clause-locks : goal.returns-clause-locks
returns-clause-locks g c =
    let seat = c.args.self.now.seat in
    let next = c.lock.new.seat in
    subst (λ (table : TableId). IsLock (handle_of seat.table_id seat.me.0) (held_of table next.me))
    (sym c.lock.ensures.seat.table) (is_lock seat.me next.me c.requires.seat c.lock.ensures.locks seat.table_id)
