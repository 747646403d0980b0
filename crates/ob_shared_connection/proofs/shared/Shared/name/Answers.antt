use Rattle.std.proofs.Common.{◌+◌, ◌∙◌, sym, subst, eqb, arith}
use prog.Atomic.{either}
use Rattle.atomic_table.specs.Table.{Allows}
use Rattle.ob_shared_connection.specs.Ruled.{Ruled}
use Rattle.ob_shared_connection.specs.Steps.{Knows, Names}
use Rattle.ob_shared_connection.proofs.Seating.{may_name}
use Rattle.ob_shared_connection.proofs.shared.Shared.name.Goals as goal

pub compare_exchange-found-requires : goal.compare_exchange-found-requires
compare_exchange-found-requires c =
    let shared = c.args.self.now in
    let slots = shared.table.shared.table_id.slots in
    let seat = c.tries.seat in
    let given = c.tries.given in (
      c.tries.invariant.table ∙ c.requires.table,
      omega (arith, shared.words),
      subst (λ (me : Knows).
          Allows Ruled slots seat.id me 1 (λ n. either (eqb n given) (given + 1) n) (Names given me))
          (sym (c.tries.invariant.same ∙ c.requires.new)) (may_name slots seat.id c.args.seat.now.me.0 given),
    )
