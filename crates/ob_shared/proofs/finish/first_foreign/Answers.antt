use Rattle.std.proofs.Common.{refl, sym, ap, ◌∙◌, subst, arith}
use Rattle.std.specs.List.{All}
use Rattle.std.proofs.lemmas.List.Elements.{All-more}
use Rattle.ob_history.proofs.First.{up_to_end}
use Rattle.ob_shared.specs.Calls.{StandsIn, IsForeign, Handed}
use Rattle.ob_shared.proofs.Finishing.{foreign_of_all}
use Rattle.ob_shared.proofs.finish.first_foreign.Goals as goal

pub loop-done-preserved : goal.loop-done-preserved
loop-done-preserved g c =
    let stored = c.args.recorded.now in
    let stands = (rw c.in_default.is at c.in_ok-place.ensures.stands) refl in
    All-more (StandsIn stored.settings stored.records) c.args.dones.now c.loop-done.done-index c.done-item.result
    (omega arith) c.loop-done.invariant
    (subst (StandsIn stored.settings stored.records) c.done-item.is stands)

pub returns-clause-stands : goal.returns-clause-stands
returns-clause-stands g c = λ none.
    let stored = c.args.recorded.now in
    up_to_end (All (StandsIn stored.settings stored.records)) c.args.dones.now c.loop-done.done-index
    (omega arith) c.loop-done.invariant

pub returns-in-Some-clause-foreign : goal.returns-in-Some-clause-foreign
returns-in-Some-clause-foreign g c =
    let stored = c.args.recorded.now in
    let who = c.caller.ensures ∙ ap (λ (one : Handed). one.maker.caller) c.done.view_is in
    subst (λ caller. IsForeign stored.settings stored.records c.args.dones.now caller c.in-Some.place) (sym who)
    (foreign_of_all stored.settings stored.records c.args.dones.now c.loop-done.done-index c.done-item.result
    c.in-Some.place c.loop-done-test.true c.done-item.is c.loop-done.invariant
    (rw c.in-Some.is at c.in_ok-place.ensures.broken) (rw c.in-Some.is at c.in_ok-place.ensures.foreign))
