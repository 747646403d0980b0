use Rattle.std.proofs.Common.{◌≡◌, ◌+◌, ◌∷◌, ap, ◌∙◌, subst, arith, length, sym}
use Rattle.std.specs.List.{All}
use Rattle.std.proofs.lemmas.List.Elements.{All-cons}
use Rattle.std.proofs.lemmas.List.Sums.{sum_by-cons}
use Rattle.ob_history.specs.History.{IsBeginning}
use Rattle.ob_shared.specs.Calls.{Handed, made_by, Sight}
use Rattle.ob_shared.proofs.locked.merged.Goals as goal

pub loop-done-preserved : goal.loop-done-preserved
loop-done-preserved g c =
    let published = c.args.publisher.now in
    let rest = c.next.new.self.rest.items in
    let one = c.in-Some.done in
    let before = c.loop-done.invariant in
    let items : c.loop-done.done-iterator.rest.items ≡ one ∷ rest = c.in-Some.ensures.steps.0 in
    let sight = c.into_parts-part.ensures.sight ∙ ap (λ (its : Handed). its.sight) c.done.view_is in
    let made = c.into_parts-part.ensures.made ∙ ap (λ (its : Handed). its.maker.made) c.done.view_is in
    let sum : made_by c.loop-done.done-iterator.rest.items ≡ one.maker.made + made_by rest =
    ap made_by items ∙ sum_by-cons (λ (its : Handed). its.maker.made) one rest in
    let saw : IsBeginning one.sight.seen published =
    subst (λ records. IsBeginning one.sight.seen records) before.same
    (subst (λ (its : Sight). IsBeginning its.seen c.loop-done.publisher) sight c.take.ensures.part) in
    record {
      parts = omega (arith, c.merge.ensures.parts, c.into_parts-part.ensures.one, ap length items, before.parts);
      amount = omega (arith, c.merge.ensures.amount, made, sum, before.amount);
      within = omega (arith, c.merge.ensures.apart, before.within);
      same = c.take.ensures.same ∙ before.same;
      saw = λ others. before.saw (subst (All (λ (its : Handed). IsBeginning its.sight.seen published)) (sym items)
          (All-cons (λ (its : Handed). IsBeginning its.sight.seen published) one rest saw others));
    }

pub returns-clause-saw : goal.returns-clause-saw
returns-clause-saw g c =
    let rest = c.loop-done.done-iterator.rest in
    let none = c.in-None.ensures.steps.0 in
    let length_is = rest.ok in
    c.loop-done.invariant.saw (λ k d within. absurd (omega (arith, within, none, length_is)))
