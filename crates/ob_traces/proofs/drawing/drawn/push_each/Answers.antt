use Rattle.std.proofs.Common.{◌∙◌, ◌++◌, ap}
use Rattle.std.specs.List.{flat_map}
use Rattle.std.proofs.lemmas.List.{take_all}
use Rattle.ob_traces.proofs.drawing.drawn.push_each.Goals as goal

pub returns : goal.returns
returns g c =
    c.loop-point.invariant
    ∙ ap (λ points. c.args.pieces.now.items ++ flat_map (g.D.Drawn.drawn c.args.scale) points)
    (take_all c.loop-point.point-index c.args.points.now c.loop-point-test.false)
