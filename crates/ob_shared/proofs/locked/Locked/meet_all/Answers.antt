use Rattle.std.proofs.Common.{◌≡◌, ℕ, ◌<◌, ◌-◌, List, ◌++◌, drop, map, take, length, get_or, set, ap, sym, ◌∙◌, subst, arith}
use Rattle.std.proofs.lemmas.List.{get_or-append_right, get_or-drop, length-map, length-take}
use Rattle.std.proofs.lemmas.List.Edits.{map_over_more}
use Rattle.std.proofs.lemmas.List.Elements.{All-more}
use Rattle.ob_history.specs.History.{IsBeginning, History}
use Rattle.ob_history.specs.declared.record.Record.{Record}
use Rattle.ob_shared.specs.Calls.{after_meeting, Handed}
use Rattle.ob_shared.proofs.locked.Locked.meet_all.Goals as goal

-- past a beginning that was mapped a list has what it had
not_yet_mapped : {X : Type 0} (f : X → X) (xs ys : List X) (i : ℕ) (d : X) → i < length xs
    → ys ≡ map f (take i xs) ++ drop i xs → get_or ys i d ≡ get_or xs i d
not_yet_mapped f xs ys i d within is =
    let short : length (map f (take i xs)) ≡ i =
    omega (arith, length-map (take i xs) f, length-take i xs, within) in
    ap (λ zs. get_or zs i d) is
    ∙ get_or-append_right (map f (take i xs)) (drop i xs) i i d short (omega arith)
    ∙ get_or-drop i xs (i - i) d ∙ ap (λ k. get_or xs k d) (omega arith)

pub loop-done-preserved : goal.loop-done-preserved
loop-done-preserved g c =
    let records = c.args.self.now.records in
    let i = c.loop-done.done-index in
    let one = c.done-item.result in
    let kept = c.loop-done.invariant in
    let within = c.loop-done-test.true in
    let same = ap (λ (history : History). history.records) kept.same in
    let here = not_yet_mapped (after_meeting records) c.args.dones.now c.loop-done.dones i one within kept.met in
    record {
      met = ap (λ (new : Handed). set c.loop-done.dones i new)
          (c.meet_done.ensures.met ∙ ap (λ (all : List Record). after_meeting all (get_or c.loop-done.dones i one)) same
          ∙ ap (after_meeting records) (sym c.done-item.is))
          ∙ map_over_more (after_meeting records) c.args.dones.now c.loop-done.dones i one within kept.met c.done-item.is;
      saw = All-more (λ (its : Handed). IsBeginning its.sight.seen records) c.args.dones.now i one within kept.saw
          (subst (λ (its : Handed). IsBeginning its.sight.seen records) here
          (subst (λ (all : List Record). IsBeginning (get_or c.loop-done.dones i one).sight.seen all) same
          c.meet_done.ensures.part));
      same = c.meet_done.ensures.same ∙ kept.same;
    }
