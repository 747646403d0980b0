use Rattle.std.proofs.Common.{◌<◌, arith, length, add-zero}
use Rattle.std.proofs.lemmas.List.{get_or-drop}
use Rattle.ob_script.proofs.Lines.{words_of-first, space_after}
use Rattle.ob_script.proofs.reading.lines.first_word.Goals as goal

pub returns-clause-words : goal.returns-clause-words
returns-clause-words c =
    rw (c.split_at.ensures.front, c.split_at.ensures.back, c.index_or_len-end.ensures.place)
    (words_of-first c.args.piece.now)

pub returns-clause-space : goal.returns-clause-space
returns-clause-space c = λ h.
    let piece = c.args.piece.now in
    let n = c.index_or_len-end.result in
    let inside : n < length piece = omega arith in
    rw (c.split_at.ensures.back, get_or-drop n piece 0 0, add-zero)
    (space_after piece n c.index_or_len-end.ensures.place inside)
