use Rattle.std.proofs.Common.{bit_and, ap, ◌∙◌}
use Rattle.std.specs.Int.{bit_not, w64}
use Rattle.ob_types.specs.Marks.{total_half, word_half}
use Rattle.ob_lanes.proofs.HeldBits.{shifted}
use Rattle.ob_lanes.proofs.Packs.{clear_both, clear_total}
use Rattle.ob_lanes.proofs.both.after_clear.Goals as goal

pub returns : goal.returns
returns c = record {
  word = ap (λ mask. word_half (bit_and c.args.found (bit_not w64 mask))) (shifted c.args.index c.requires)
      ∙ clear_both c.args.found c.args.index c.ranges.found.fits c.requires;
  total = ap (λ mask. total_half (bit_and c.args.found (bit_not w64 mask))) (shifted c.args.index c.requires)
      ∙ clear_total c.args.found c.args.index c.ranges.found.fits c.requires;
}
