use Rattle.std.proofs.Common.{sym, ◌∙◌, arith}
use Rattle.std.proofs.lemmas.List.FromFn.{map-range_with_len_more}
use Rattle.ob_shared.specs.Calls.{new_share}
use Rattle.ob_shared.proofs.opening.shares.Goals as goal

pub loop-caller-preserved : goal.loop-caller-preserved
loop-caller-preserved g c = record {
  parts = omega (arith, c.split_off-part.ensures.parts_left, c.loop-caller.invariant.parts);
  none_made = omega (arith, c.split_off-part.ensures.amount_left, c.loop-caller.invariant.none_made);
  shares = rw (c.push_reserved.ensures.items, c.loop-caller.invariant.shares, c.new.ensures)
      (sym (map-range_with_len_more new_share 0 c.loop-caller.caller c.loop-caller.caller (omega arith)));
  memory = rw c.push_reserved.ensures.capacity c.loop-caller.invariant.memory;
  published = c.reader.ensures.same ∙ c.loop-caller.invariant.published;
  length = omega (arith, c.push_reserved.ensures.len, c.loop-caller.invariant.length);
}
