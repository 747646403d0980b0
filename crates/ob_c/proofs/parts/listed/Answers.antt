use Rattle.std.proofs.Common.{slice_index_or, ◌++◌, ◌∷◌, [], sym, ap, ◌∙◌}
use Rattle.std.proofs.lemmas.List.{take_all}
use Rattle.ob_c.proofs.Listing.{no_part, sliced_more}
use Rattle.ob_c.proofs.parts.listed.Goals as goal

pub loop-part-init : goal.loop-part-init
loop-part-init c = c.reserve.ensures.items ∙ c.new-list.ensures.items

pub loop-part-preserved : goal.loop-part-preserved
loop-part-preserved c =
    let at = c.loop-part in
    let part = (slice_index_or c.args.parts.now at.part-index no_part).bytes in
    c.in_ok-push.ensures.items ∙ ap (λ slices. slices ++ part ∷ []) at.invariant
    ∙ sym (sliced_more c.args.parts.now at.part-index c.loop-part-test.true)

pub returns : goal.returns
returns c = rw (take_all c.loop-part.part-index c.args.parts.now c.loop-part-test.false) at c.loop-part.invariant
