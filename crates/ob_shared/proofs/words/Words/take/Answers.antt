use Rattle.std.proofs.Common.{sym, ap, ◌∙◌, subst, arith}
use Rattle.ob_history.specs.History.{IsBeginning}
use Rattle.ob_shared.specs.Published.{Knows}
use Rattle.ob_shared.proofs.Publishing.{may_learn, may_take}
use Rattle.ob_shared.proofs.words.Words.take.Goals as goal

pub join_seat-requires : goal.join_seat-requires
join_seat-requires g c =
    let words = c.args.self.now in
    let seat = c.args.seat.now in
    let other = c.args.other in (
      c.requires.table ∙ sym words.table_is,
      c.requires.other ∙ sym words.table_is,
      c.requires.slots,
      omega (arith, words.words),
      rw (words.marks_are, words.estimate_is)
          (may_take g.L.Named.opened.settings seat.id seat.me.0 other.id other.me.0),
    )

pub load-requires : goal.load-requires
load-requires g c =
    let words = c.args.self.now in
    let seat = c.join_seat.new.seat in (
      c.join_seat.ensures.0 ∙ c.requires.table ∙ sym words.table_is,
      omega (arith, words.words),
      rw (words.marks_are, words.estimate_is)
          (may_learn g.L.Named.opened.settings words.table.shared.table_id.slots seat.id seat.me
          (ap (λ (me : Knows). me.0.publishes) c.join_seat.ensures.2 ∙ c.requires.publishes)),
    )

pub returns-clause-publishes : goal.returns-clause-publishes
returns-clause-publishes g c =
    ap (λ (me : Knows). me.0.publishes) (c.load.ensures.2.same ∙ c.join_seat.ensures.2) ∙ c.requires.publishes

pub returns-clause-seen : goal.returns-clause-seen
returns-clause-seen g c = ap (λ (me : Knows). me.0.seen) (c.load.ensures.2.same ∙ c.join_seat.ensures.2)

pub returns-clause-part : goal.returns-clause-part
returns-clause-part g c =
    subst (λ (me : Knows). IsBeginning me.0.told me.0.seen) c.join_seat.ensures.2 c.load.ensures.2.told
