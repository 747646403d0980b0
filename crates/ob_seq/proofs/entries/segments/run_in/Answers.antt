use Rattle.ob_seq.proofs.Words.{◌-◌, ◌++◌, ℕ, length, sym, ap, ◌∙◌, arith, drop, take_all}
use Rattle.std.proofs.Math.Seq.{drop-append-add}
use Rattle.std.proofs.lemmas.List.{length-drop}
use Rattle.ob_seq.proofs.entries.segments.run_in.Goals as goal

pub returns-else-place-front-clause-run : goal.returns-else-place-front-clause-run
returns-else-place-front-clause-run c =
    let front = c.as_slices.result.0.now in
    let back = c.as_slices.result.1.now in
    let rest = c.args.place - length front in
    let all = take_all (length back - rest) (drop rest back) (omega (arith, length-drop rest back)) in
    let items = ap (drop c.args.place) (sym c.as_slices.ensures.items)
    ∙ ap (λ (n : ℕ). drop n (front ++ back)) (omega (arith, c.if-place-front.false))
    ∙ drop-append-add front back rest in
    rw (all, items) (sym (take_all (length (drop rest back)) (drop rest back) (omega arith)))
