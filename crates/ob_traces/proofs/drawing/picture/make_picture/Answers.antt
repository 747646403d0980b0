use Rattle.std.proofs.Common.{◌∙◌, ◌++◌, ap}
use Rattle.ob_traces.specs.Draw.{before_pieces, behind_pieces, drawn_pieces, scale_of}
use Rattle.ob_traces.proofs.drawing.picture.make_picture.Goals as goal

pub returns : goal.returns
returns c =
    let shown = c.args.shown.now in
    let marks = c.args.marks in
    let scale = c.new-scale.result in
    let points = c.in_ok-points.points.items in
    c.in_ok-push_before.ensures
    ∙ ap (λ drawn. c.push_behind.new.pieces.items ++ before_pieces scale drawn) c.deref-2.ensures.value
    ∙ ap (λ behind. behind ++ before_pieces scale points) c.in_ok-push_behind.ensures
    ∙ ap (λ drawn. (c.new-pieces.result.items ++ behind_pieces scale marks drawn) ++ before_pieces scale points)
    c.deref.ensures.value
    ∙ ap (λ empty. (empty ++ behind_pieces scale marks points) ++ before_pieces scale points) c.new-pieces.ensures.items
    ∙ ap (λ given. drawn_pieces given marks points) c.new-scale.ensures
    ∙ ap (λ high. drawn_pieces (scale_of shown high) marks points) c.high.ensures.value
    ∙ ap (λ drawn. drawn_pieces (scale_of shown marks.high) marks drawn) c.in_ok-points.ensures
