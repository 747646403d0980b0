use Rattle.std.proofs.Common.{bit_or, ap, ◌∙◌}
use Rattle.ob_types.specs.Marks.{total_half, word_half}
use Rattle.ob_lanes.proofs.HeldBits.{shifted}
use Rattle.ob_lanes.proofs.Packs.{set_both, set_total}
use Rattle.ob_lanes.proofs.both.after_set.Goals as goal

pub returns : goal.returns
returns c = record {
  word = ap (λ mask. word_half (bit_or c.args.found mask)) (shifted c.args.index c.requires)
      ∙ set_both c.args.found c.args.index;
  total = ap (λ mask. total_half (bit_or c.args.found mask)) (shifted c.args.index c.requires)
      ∙ set_total c.args.found c.args.index;
}
