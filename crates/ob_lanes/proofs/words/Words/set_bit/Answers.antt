use Rattle.std.proofs.Common.{◌+◌, ◌^◌, rules}
use Rattle.ob_core.specs.declared.lane_step.LaneStep.TheVariants.{SetBit}
use Rattle.ob_lanes.proofs.Allowed.{may_set, told_of}
use Rattle.ob_lanes.proofs.HeldBits.{held_within, shifted, same_up}
use Rattle.ob_lanes.proofs.words.Words.set_bit.Goals as goal

pub fetch_or-requires : goal.fetch_or-requires
fetch_or-requires c =
    let within = held_within c.args.seat.now.me.0.lane c.args.index c.requires.may in
    may_set c.self.inside c.self.invariant _ c.self.view_is c.args.seat.now c.args.index _ (shifted c.args.index within) within
    c.requires

pub returns : goal.returns
returns c =
    let within = held_within c.args.seat.now.me.0.lane c.args.index c.requires.may in
    record {
      same = search rules;
      told = told_of SetBit (λ i. 2 ^ (i + 32)) (λ a b _ _. same_up a b) c.args.index within _ _ _ _
          (shifted c.args.index within) c.fetch_or.ensures.2;
    }
