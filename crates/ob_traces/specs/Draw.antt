-- The picture of a trace, piece by piece: where lines and bytes stand in it, in tenths of a pixel, and what is drawn.
use Rattle.std.specs.Fmt.{decimal}
use Rattle.std.specs.List.{position_or_len, range_with_len, slice_index_or, flat_map}
use Rattle.std.specs.Option.{unwrap_or}
use Rattle.std.specs.Prelude.{◌+◌, ◌*◌, ◌/◌, ℕ, if◌then◌else◌, nat_lt, ◌-◌, List, fold, length, [], ◌∷◌, filter, find}
use Rattle.std.specs.Prelude.{nat_le, ◌==◌, ◌&&◌, not, drop, map, ◌%◌, ◌++◌, codes, ◌≡◌, Option, None, Some}
use Rattle.ob_types.specs.Marks.{Marks}
use Rattle.ob_types.specs.declared.reply.Change.{Change}
use Rattle.ob_types.specs.declared.reply.Change.TheVariants.{Unwritable, Writable}
use Rattle.ob_traces.specs.Traces.{bare, shows_bytes}
use Rattle.ob_traces.specs.declared.drawing.piece.Fixed.{Fixed}
use Rattle.ob_traces.specs.declared.drawing.piece.Fixed.TheVariants as fixed
use Rattle.ob_traces.specs.declared.drawing.piece.Piece.{Piece}
use Rattle.ob_traces.specs.declared.drawing.piece.Piece.TheVariants as piece
use Rattle.ob_traces.specs.declared.drawing.point.Point.{Point}
use Rattle.ob_traces.specs.declared.drawing.scale.Scale.{Scale}
use Rattle.ob_traces.specs.declared.traces.line.TraceLine.{TraceLine}

-- the whole number nearest to a quotient; of two the greater
abbrev pub nearest : ℕ → ℕ → ℕ
nearest number by = (2 * number + by) / (2 * by)

-- the greater of two numbers
abbrev pub greater : ℕ → ℕ → ℕ
greater a b = if nat_lt a b then b else a

-- the scale for lines and a high mark: the greatest of what they show and of the mark stays below the upper edge
abbrev pub scale_of : List TraceLine → ℕ → Scale
scale_of shown high = record {
  lines = length shown;
  most = fold (λ most line. greater most line.total) high shown;
}

-- where the line of a place begins, in tenths of a pixel from the left: the lines share 752 pixels, from the 112th on
abbrev pub x_of : Scale → ℕ → ℕ
x_of scale place = 1120 + nearest (7520 * place) (greater scale.lines 1)

-- where *n* bytes stand, in tenths of a pixel from the top: none at 350 pixels, and 306 above it 108 hundredths of the most
-- that is shown
abbrev pub y_of : Scale → ℕ → ℕ
y_of scale total = 3500 - nearest (306000 * total) (108 * greater scale.most 1)

-- the round numbers: those of one digit, and these with zeros behind them
abbrev pub round_numbers : List ℕ
round_numbers =
    1 ∷ 2 ∷ 5 ∷ 10 ∷ 20 ∷ 50 ∷ 100 ∷ 200 ∷ 500 ∷ 1000 ∷ 2000 ∷ 5000 ∷ 10000 ∷ 20000 ∷ 50000 ∷ 100000 ∷ 200000 ∷ 500000
    ∷ 1000000 ∷ 2000000 ∷ 5000000 ∷ 10000000 ∷ 20000000 ∷ 50000000 ∷ 100000000 ∷ 200000000 ∷ 500000000 ∷ 1000000000 ∷ []

-- how far two numbers on an axis are apart that shows up to this one: the least round number of which five are more
abbrev pub step_of : ℕ → ℕ
step_of most = unwrap_or (find (λ step. nat_lt most (5 * step)) round_numbers) 1000000000

-- the numbers on an axis that shows up to this one: the multiples of the step, from 0 on
abbrev pub ticks_of : ℕ → List ℕ
ticks_of most =
    let step = step_of most in
    filter (λ tick. nat_le tick most) (0 ∷ step ∷ 2 * step ∷ 3 * step ∷ 4 * step ∷ [])

-- how many lines from a place on show no writable buffer, if that of the place is the first of them, and else 0
abbrev pub stretch_at : List TraceLine → ℕ → ℕ
stretch_at shown place =
    if not (place == 0) && not (slice_index_or shown (place - 1) bare).is_writable then 0
    else position_or_len (λ line. line.is_writable) (drop place shown)

-- what is drawn of the line of a place
abbrev pub point_at : List TraceLine → ℕ → Point
point_at shown place =
    let line = slice_index_or shown place bare in
    record { place = place; total = line.total; change = line.change; stretch = stretch_at shown place }

-- what is drawn of each line
abbrev pub points_of : List TraceLine → List Point
points_of shown = map (λ place. point_at shown place) (range_with_len 0 (length shown))

-- a piece that each picture has alike
abbrev pub fixed_text : Fixed → List ℕ
fixed_text fixed.Head = codes "<svg xmlns=\"http://www.w3.org/2000/svg\" viewBox=\"0 0 960 400\" font-family=\"sans-serif\" font-size=\"12\">\n<title>The pending bytes over the lines of a trace, against the low and the high mark</title>\n<rect width=\"960\" height=\"400\" fill=\"white\"/>\n"
fixed_text fixed.ShadeAt = codes "<rect x=\""
fixed_text fixed.ShadeWide = codes "\" y=\"44\" width=\""
fixed_text fixed.ShadeEnd = codes "\" height=\"306\" fill=\"#fbe3d6\"/>\n"
fixed_text fixed.Axes = codes "<path d=\"M112 44 V350 H864 V44\" fill=\"none\" stroke=\"#222222\"/>\n"
fixed_text fixed.TickBelow = codes " 350 v5\" stroke=\"#222222\"/>\n<text x=\""
fixed_text fixed.TickBelowEnd = codes "\" y=\"367\" text-anchor=\"middle\" fill=\"#222222\">"
fixed_text fixed.TickBesideAt = codes "<path d=\"M864 "
fixed_text fixed.TickBeside = codes " h5\" stroke=\"#222222\"/>\n<text x=\"872\" y=\""
fixed_text fixed.TickBesideEnd = codes "\" fill=\"#222222\">"
fixed_text fixed.MarkAt = codes "<path d=\"M112 "
fixed_text fixed.MarkName = codes " H864\" stroke=\"#7a7a7a\" stroke-dasharray=\"6 4\"/>\n<text x=\"106\" y=\""
fixed_text fixed.Low = codes "\" text-anchor=\"end\">low "
fixed_text fixed.High = codes "\" text-anchor=\"end\">high "
fixed_text fixed.TextEnd = codes "</text>\n"
fixed_text fixed.PathAt = codes "<path d=\"M"
fixed_text fixed.Space = codes " "
fixed_text fixed.Down = codes " V"
fixed_text fixed.Along = codes " H"
fixed_text fixed.CurveEnd = codes "\" fill=\"none\" stroke=\"#1f4e79\" stroke-width=\"2\"/>\n"
fixed_text fixed.Stop = codes " l-6 -12 h12 z\" fill=\"#b3261e\"/>\n"
fixed_text fixed.Go = codes " l-6 12 h12 z\" fill=\"#1b7f3b\"/>\n"
fixed_text fixed.Legend = codes "<text x=\"112\" y=\"28\" fill=\"#222222\">pending bytes; shaded: writers are stopped</text>\n<text x=\"864\" y=\"390\" text-anchor=\"end\" fill=\"#222222\">"
fixed_text fixed.End = codes " lines</text>\n<text x=\"112\" y=\"390\" fill=\"#b3261e\">&#9660; stop</text>\n<text x=\"172\" y=\"390\" fill=\"#1b7f3b\">&#9650; go on</text>\n</svg>\n"

-- a length in pixels, by its tenths
abbrev pub tenths_text : ℕ → List ℕ
tenths_text tenths = decimal (tenths / 10) ++ codes "." ++ decimal (tenths % 10)

-- a piece
abbrev pub piece_text : Piece → List ℕ
piece_text (piece.Fixed fixed) = fixed_text fixed
piece_text (piece.Tenths tenths) = tenths_text tenths
piece_text (piece.Number number) = decimal number

-- the shade of the stretch that begins with a line, if one does
abbrev pub shade_pieces : Scale → Point → List Piece
shade_pieces scale point =
    if point.stretch == 0 then []
    else piece.Fixed fixed.ShadeAt ∷ piece.Tenths (x_of scale point.place) ∷ piece.Fixed fixed.ShadeWide
    ∷ piece.Tenths (x_of scale (point.place + point.stretch) - x_of scale point.place) ∷ piece.Fixed fixed.ShadeEnd ∷ []

-- the shades of all stretches
abbrev pub shades_pieces : Scale → List Point → List Piece
shades_pieces scale points = flat_map (shade_pieces scale) points

-- the line of a mark, with its name
abbrev pub mark_pieces : Scale → Fixed → ℕ → List Piece
mark_pieces scale name mark =
    piece.Fixed fixed.MarkAt ∷ piece.Tenths (y_of scale mark) ∷ piece.Fixed fixed.MarkName
    ∷ piece.Tenths (y_of scale mark + 40) ∷ piece.Fixed name ∷ piece.Number mark ∷ piece.Fixed fixed.TextEnd ∷ []

-- the number of a line below the axis, with its stroke
abbrev pub below_pieces : Scale → ℕ → List Piece
below_pieces scale line =
    piece.Fixed fixed.PathAt ∷ piece.Tenths (x_of scale line) ∷ piece.Fixed fixed.TickBelow
    ∷ piece.Tenths (x_of scale line) ∷ piece.Fixed fixed.TickBelowEnd ∷ piece.Number line ∷ piece.Fixed fixed.TextEnd ∷ []

-- a number of bytes beside the axis, with its stroke
abbrev pub beside_pieces : Scale → ℕ → List Piece
beside_pieces scale bytes =
    piece.Fixed fixed.TickBesideAt ∷ piece.Tenths (y_of scale bytes) ∷ piece.Fixed fixed.TickBeside
    ∷ piece.Tenths (y_of scale bytes + 40) ∷ piece.Fixed fixed.TickBesideEnd ∷ piece.Number bytes
    ∷ piece.Fixed fixed.TextEnd ∷ []

-- the numbers on both axes
abbrev pub ticks_pieces : Scale → List Piece
ticks_pieces scale =
    flat_map (below_pieces scale) (ticks_of (greater scale.lines 1))
    ++ flat_map (beside_pieces scale) (ticks_of (greater scale.most 1))

-- the axes and the two marks
abbrev pub axes_pieces : Scale → Marks → List Piece
axes_pieces scale marks =
    piece.Fixed fixed.Axes ∷ (mark_pieces scale fixed.Low marks.low ++ mark_pieces scale fixed.High marks.high)

-- a step of the curve: to the height of a line, and along to the next one
abbrev pub step_pieces : Scale → Point → List Piece
step_pieces scale point =
    piece.Fixed fixed.Down ∷ piece.Tenths (y_of scale point.total) ∷ piece.Fixed fixed.Along
    ∷ piece.Tenths (x_of scale (point.place + 1)) ∷ []

-- the curve of the pending bytes
abbrev pub curve_pieces : Scale → List Point → List Piece
curve_pieces scale points =
    (piece.Fixed fixed.PathAt ∷ piece.Tenths (x_of scale 0) ∷ piece.Fixed fixed.Space ∷ piece.Tenths (y_of scale 0) ∷ [])
    ++ flat_map (step_pieces scale) points ++ piece.Fixed fixed.CurveEnd ∷ []

-- the triangle of a change, whose tip is at the height of the line
abbrev pub triangle_pieces : Scale → Point → Fixed → List Piece
triangle_pieces scale point turn =
    piece.Fixed fixed.PathAt ∷ piece.Tenths (x_of scale point.place) ∷ piece.Fixed fixed.Space
    ∷ piece.Tenths (y_of scale point.total) ∷ piece.Fixed turn ∷ []

-- the triangle of a line, by its change
abbrev pub turned_pieces : Scale → Point → Option Change → List Piece
turned_pieces scale point None = []
turned_pieces scale point (Some Unwritable) = triangle_pieces scale point fixed.Stop
turned_pieces scale point (Some Writable) = triangle_pieces scale point fixed.Go

abbrev pub turn_pieces : Scale → Point → List Piece
turn_pieces scale point = turned_pieces scale point point.change

-- the triangles of all changes
abbrev pub turns_pieces : Scale → List Point → List Piece
turns_pieces scale points = flat_map (turn_pieces scale) points

-- the texts below and above the picture
abbrev pub end_pieces : Scale → List Piece
end_pieces scale = piece.Fixed fixed.Legend ∷ piece.Number scale.lines ∷ piece.Fixed fixed.End ∷ []

-- what stands behind the curve
abbrev pub behind_pieces : Scale → Marks → List Point → List Piece
behind_pieces scale marks points =
    piece.Fixed fixed.Head ∷ (shades_pieces scale points ++ ticks_pieces scale ++ axes_pieces scale marks)

-- the curve, and what stands before it
abbrev pub before_pieces : Scale → List Point → List Piece
before_pieces scale points = curve_pieces scale points ++ turns_pieces scale points ++ end_pieces scale

-- the picture by its scale and its points
abbrev pub drawn_pieces : Scale → Marks → List Point → List Piece
drawn_pieces scale marks points = behind_pieces scale marks points ++ before_pieces scale points

-- the picture of lines that show bytes, against marks
abbrev pub picture_pieces : Marks → List TraceLine → List Piece
picture_pieces marks shown = drawn_pieces (scale_of shown marks.high) marks (points_of shown)

-- a text is that of the picture of the lines that show bytes
abbrev pub TellsPicture : Marks → List TraceLine → List ℕ → Type 0
TellsPicture marks lines text = text ≡ flat_map piece_text (picture_pieces marks (filter shows_bytes lines))
