use Rattle.std.proofs.Common.{◌≡◌, fold, take}
use Rattle.ob_traces.specs.Draw.{greater}
use Rattle.ob_traces.proofs.drawing.scale.Scale.new.Given as goal

abbrev pub invariant-loop-line : goal.invariant-loop-line
invariant-loop-line l = l.most ≡ fold (λ most line. greater most line.total) l.high (take l.line-index l.shown)
