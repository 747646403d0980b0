use Rattle.std.proofs.Common.{◌∙◌, ap, arith, length}
use Rattle.std.proofs.lemmas.List.Sums.{count_by-le-length, length-filter}
use Rattle.std.specs.List.{flat_map}
use Rattle.ob_traces.specs.Draw.{picture_pieces, piece_text}
use Rattle.ob_traces.specs.Traces.{shows_bytes}
use Rattle.ob_script.proofs.Results.{OnOk-follows}
use Rattle.ob_traces.proofs.drawing.DrawingTeller.push_told.Goals as goal

pub make_picture-requires : goal.make_picture-requires
make_picture-requires c =
    let lines = c.args.lines.now in
    let shown = ap length (c.deref.ensures.value ∙ c.in_ok-shown.ensures) in
    let count = length-filter shows_bytes lines in
    let fewer = count_by-le-length shows_bytes lines in
    record { few = omega (arith, shown, count, fewer, c.requires.few) }

pub returns : goal.returns
returns c =
    let marks = c.args.self.now.marks in
    let text = ap (flat_map piece_text)
    (c.deref-2.ensures.value ∙ c.in_ok-make_picture.ensures
    ∙ ap (picture_pieces marks) (c.deref.ensures.value ∙ c.in_ok-shown.ensures)) in
    OnOk-follows c.push_pieces.result (λ told. (_, text, told)) c.push_pieces.ensures
