use Rattle.std.proofs.Common.{sym, subst}
use Rattle.atomic_table.specs.Seated.{TableId}
use Rattle.ob_shared_connection.specs.Values.{IsGlance}
use Rattle.ob_shared_connection.specs.Steps.{handle_of}
use Rattle.ob_shared_connection.proofs.Told.{is_glance, still_rests}
use Rattle.ob_shared_connection.proofs.caller.Caller.glance.Goals as goal

pub returns-clause-free : goal.returns-clause-free
returns-clause-free c =
    still_rests c.args.self.now.seat.me c.read.result c.read.new.seat.me c.requires c.read.ensures.reads

pub returns-clause-glance : goal.returns-clause-glance
returns-clause-glance c =
    let old = c.args.self.now.seat in
    let new = c.read.new.seat in
    subst (λ (table : TableId).
    IsGlance (handle_of old.table_id old.me.0) (record { word = c.unpack-word.result.0; total = c.unpack-word.result.1 })
    (handle_of table new.me.0)) (sym c.read.ensures.seat.table)
    (is_glance old.me c.read.result new.me c.requires c.read.ensures.reads old.table_id c.unpack-word.result.0
    c.unpack-word.result.1 c.unpack-word.ensures.undoes)
