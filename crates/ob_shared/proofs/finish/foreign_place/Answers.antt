use Rattle.std.proofs.Common.{inl, inr, rules}
use Rattle.ob_shared.proofs.Finishing.{breaks_at, foreign_receipt, foreign_seen, foreign_told}
use Rattle.ob_shared.proofs.finish.foreign_place.Goals as goal

pub returns-in-Some-clause-broken : goal.returns-in-Some-clause-broken
returns-in-Some-clause-broken g c =
    let stored = c.args.recorded.now in
    foreign_receipt stored.settings stored.records c.args.done.now c.in-Some.index
    (rw (← c.done.view_is, ← c.caller.ensures, ← c.deref.ensures.value) c.in-Some.ensures.foreign)

pub returns-in-Some-first_foreign_told-clause-broken : goal.returns-in-Some-first_foreign_told-clause-broken
returns-in-Some-first_foreign_told-clause-broken g c =
    let stored = c.args.recorded.now in
    foreign_told stored.settings stored.records c.args.done.now c.in-Some-first_foreign_told.index
    (rw (← c.done.view_is, ← c.deref-2.ensures.value) c.in-Some-first_foreign_told.ensures.foreign)

pub returns-in-Some-2-clause-broken : goal.returns-in-Some-2-clause-broken
returns-in-Some-2-clause-broken g c =
    let stored = c.args.recorded.now in
    foreign_seen stored.settings stored.records c.args.done.now c.in-Some-2.index
    (rw (← c.done.view_is, ← c.deref-3.ensures.value) (rw c.in-Some-2.is at c.in_ok-index.ensures.foreign))

pub returns-in-Some-clause-foreign : goal.returns-in-Some-clause-foreign
returns-in-Some-clause-foreign g c = inl (breaks_at _ (λ receipt. receipt.place) _ c.in-Some.index c.index.result.now
    (rw (← c.done.view_is, ← c.caller.ensures, ← c.deref.ensures.value) c.in-Some.ensures.foreign)
    (rw (← c.done.view_is) c.index.ensures))

pub returns-in-Some-first_foreign_told-clause-foreign : goal.returns-in-Some-first_foreign_told-clause-foreign
returns-in-Some-first_foreign_told-clause-foreign g c = inr (inl (
  search rules,
  breaks_at _ (λ receipt. receipt.place) _
      c.in-Some-first_foreign_told.index c.index-in-Some-first_foreign_told.result.now
      (rw (← c.done.view_is, ← c.deref-2.ensures.value) c.in-Some-first_foreign_told.ensures.foreign)
      (rw (← c.done.view_is) c.index-in-Some-first_foreign_told.ensures),
))

pub returns-in-Some-2-clause-foreign : goal.returns-in-Some-2-clause-foreign
returns-in-Some-2-clause-foreign g c = inr (inr (
  search rules,
  search rules,
  breaks_at _ (λ look. look.place) _
      c.in-Some-2.index c.index-in-Some-2.result.now
      (rw (← c.done.view_is, ← c.deref-3.ensures.value) (rw c.in-Some-2.is at c.in_ok-index.ensures.foreign))
      (rw (← c.done.view_is) c.index-in-Some-2.ensures),
))
