use Rattle.std.proofs.Common.{sym, ◌∙◌, subst, arith}
use Rattle.ob_shared_connection.specs.Steps.{HasLock, IsNow, Knows}
use Rattle.ob_shared_connection.proofs.Publishing.{may_publish}
use Rattle.ob_shared_connection.proofs.shared.Shared.publish.Goals as goal

pub store-requires : goal.store-requires
store-requires c =
    let shared = c.args.self.now in
    let seat = c.is_published.new.seat in
    let same = c.is_published.ensures.other c.if-not-is_published.true in (
      c.is_published.ensures.seat.table ∙ c.requires.table,
      omega (arith, shared.words),
      may_publish shared.table.shared.table_id.slots seat.id seat.me c.args.number
          (subst (λ (me : Knows). HasLock me) (sym same) c.requires.lock)
          (subst (λ (me : Knows). IsNow me.0 c.args.number) (sym same) c.requires.now),
    )
