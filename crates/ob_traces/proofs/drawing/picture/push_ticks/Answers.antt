use Rattle.std.proofs.Common.{◌≡◌, ◌++◌, ◌∙◌, ap, append_assoc}
use Rattle.std.specs.List.{flat_map}
use Rattle.ob_traces.specs.Draw.{greater, below_pieces, beside_pieces, ticks_of}
use Rattle.ob_script.proofs.Results.{OnOk-follows}
use Rattle.ob_traces.proofs.drawing.picture.push_ticks.Goals as goal

pub returns : goal.returns
returns c =
    let scale = c.args.scale in
    let old = c.args.pieces.now.items in
    let lines = flat_map (below_pieces scale) (ticks_of (greater scale.lines 1)) in
    let bytes = flat_map (beside_pieces scale) (ticks_of (greater scale.most 1)) in
    let below : c.push_each.new.pieces.items ≡ old ++ lines =
    c.in_ok-push_each.ensures
    ∙ ap (λ ticks. old ++ flat_map (below_pieces scale) ticks)
    (c.deref.ensures.value ∙ c.in_ok-lines.ensures ∙ ap ticks_of c.greater.ensures) in
    OnOk-follows c.push_each-2.result (λ pushed.
    pushed
    ∙ ap (λ ticks. c.push_each.new.pieces.items ++ flat_map (beside_pieces scale) ticks)
    (c.deref-2.ensures.value ∙ c.in_ok-bytes.ensures ∙ ap ticks_of c.greater-2.ensures)
    ∙ ap (λ before. before ++ bytes) below ∙ append_assoc old lines bytes) c.push_each-2.ensures
