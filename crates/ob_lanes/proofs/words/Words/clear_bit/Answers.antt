use Rattle.std.proofs.Common.{◌+◌, ◌^◌, ap, rules}
use Rattle.std.specs.Int.{bit_not, w64}
use Rattle.ob_core.specs.declared.lane_step.LaneStep.TheVariants.{ClearBit}
use Rattle.ob_lanes.proofs.Allowed.{may_clear, told_of}
use Rattle.ob_lanes.proofs.HeldBits.{held_within, shifted, same_others}
use Rattle.ob_lanes.proofs.words.Words.clear_bit.Goals as goal

pub fetch_and-requires : goal.fetch_and-requires
fetch_and-requires c =
    let within = held_within c.args.seat.now.me.0.lane c.args.index c.requires.may in
    may_clear c.self.inside c.self.invariant _ c.self.view_is c.args.seat.now c.args.index _
    (ap (bit_not w64) (shifted c.args.index within)) within c.requires

pub returns : goal.returns
returns c =
    let within = held_within c.args.seat.now.me.0.lane c.args.index c.requires.may in
    record {
      same = search rules;
      told = told_of ClearBit (λ i. bit_not w64 (2 ^ (i + 32))) same_others c.args.index within _ _ _ _
          (ap (bit_not w64) (shifted c.args.index within)) c.fetch_and.ensures.2;
    }
