use Rattle.std.proofs.Common.{◌≡◌, ◌≤◌, ◌*◌, ◌∙◌, ap, refl, subst, sym}
use Rattle.std.specs.Prelude.{nat_lt}
use Rattle.std.specs.Option.{unwrap_or}
use Rattle.ob_traces.specs.Draw.{round_numbers, step_of}
use Rattle.ob_traces.proofs.Axis.{first_within}
use Rattle.ob_traces.proofs.drawing.tick.step_of.Goals as goal

pub returns-clause-small : goal.returns-clause-small
returns-clause-small c =
    let value : c.unwrap_or.result ≡ step_of c.args.most =
    c.unwrap_or.ensures ∙ ap (λ found. unwrap_or found 1000000000) c.first_round.ensures in
    subst (λ step. step ≤ 1000000000) (sym value)
    (first_within (λ step. nat_lt c.args.most (5 * step)) round_numbers refl)
