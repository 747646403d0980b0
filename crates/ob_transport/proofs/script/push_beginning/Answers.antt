use Rattle.std.proofs.Common.{◌+◌, ◌-◌, min, ◌++◌, length, take, drop, arith, ap, ◌∙◌, add-one}
use Rattle.std.proofs.lemmas.List.{take-append-le}
use Rattle.std.specs.List.{concat}
use Rattle.std.specs.Prelude.{vec_len}
use Rattle.ob_transport.proofs.Beginnings.{one_more_block}
use Rattle.ob_transport.proofs.script.push_beginning.Goals as goal

pub loop-block-preserved : goal.loop-block-preserved
loop-block-preserved c =
    let block = c.block-item.result in
    let left = c.loop-block.left in
    let i = c.loop-block.block-index in
    let blocks = c.args.blocks.now in
    let before = c.args.bytes.now in
    let so_far = c.loop-block.bytes in
    let count = c.min-count.ensures ∙ ap (λ n. min left n) c.len.ensures.value in
    let kept = c.in_ok-extend_from_slice.ensures.items
    ∙ ap (λ slice. so_far.items ++ take c.min-count.result slice) c.as_slice.ensures
    ∙ ap (λ n. so_far.items ++ take n block) count in (
      ap (λ bytes. bytes ++ take (left - c.min-count.result) (concat (drop (i + 1) blocks))) kept
          ∙ ap (λ n. (so_far.items ++ take (min left (length block)) block)
          ++ take (left - n) (concat (drop (i + 1) blocks))) count
          ∙ ap (λ j. (so_far.items ++ take (min left (length block)) block)
          ++ take (left - min left (length block)) (concat (drop j blocks))) (add-one i)
          ∙ one_more_block so_far.items left i blocks (before.items ++ take c.args.most (concat blocks)) block block
          (omega arith) c.block-item.is c.loop-block.invariant.0,
      ap (take (vec_len before)) kept
          ∙ take-append-le (vec_len before) so_far.items (take (min left (length block)) block)
          (omega (arith, c.loop-block.invariant.2, so_far.ok.0)) ∙ c.loop-block.invariant.1,
      omega (arith, c.loop-block.invariant.2, c.in_ok-extend_from_slice.ensures.len),
    )
