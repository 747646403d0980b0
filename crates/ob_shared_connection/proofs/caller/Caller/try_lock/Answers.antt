use Rattle.std.proofs.Common.{sym, subst}
use Rattle.atomic_table.specs.Seated.{TableId}
use Rattle.ob_shared_connection.specs.Calls.{IsLock}
use Rattle.ob_shared_connection.specs.Steps.{handle_of, held_of}
use Rattle.ob_shared_connection.proofs.Told.{is_lock}
use Rattle.ob_shared_connection.proofs.caller.Caller.try_lock.Goals as goal

pub returns-clause-locks : goal.returns-clause-locks
returns-clause-locks c taken =
    let seat = c.args.self.now.seat in
    let next = c.try_lock.new.seat in
    subst (λ (table : TableId). IsLock (handle_of seat.table_id seat.me.0) (held_of table next.me))
    (sym c.try_lock.ensures.seat.table) (is_lock seat.me next.me c.requires.seat (c.try_lock.ensures.taken taken) seat.table_id)
