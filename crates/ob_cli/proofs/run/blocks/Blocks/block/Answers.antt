use Rattle.std.proofs.Common.{◌≡◌, ◌∙◌, ◌+◌, ap, arith, subst}
use Rattle.std.specs.Prelude.{IfOk}
use Rattle.std.specs.List.{slice_range}
use Rattle.ob_cli.proofs.RunLines.{part-block}
use Rattle.ob_cli.proofs.run.blocks.Blocks.block.Goals as goal

pub returns : goal.returns
returns c =
    let size = c.args.size in
    let counting = c.in_ok-shared.field-0.now in
    let block = part-block c.args.first size 4351 (omega (arith, c.ranges.first.fits, c.if-size-gt-MAX_SHARED.false)) in
    subst (λ part. IfOk c.slice.result (λ bytes. bytes ≡ part))
    (ap (λ start. slice_range counting start (start + size)) c.from-start.ensures
    ∙ ap (λ bytes. slice_range bytes c.args.first (c.args.first + size)) c.in_ok-shared.ensures ∙ block)
    c.slice.ensures.ok
