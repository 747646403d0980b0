use Rattle.std.proofs.Common.{◌≡◌, ◌++◌, take}
use Rattle.std.specs.List.{flat_map}
use Rattle.ob_traces.proofs.drawing.drawn.push_each.Given as goal

abbrev pub invariant-loop-point : goal.invariant-loop-point
invariant-loop-point g l = l.pieces.items ≡ l.initial.pieces.items ++ flat_map (g.D.Drawn.drawn l.scale) (take l.point-index l.points)
