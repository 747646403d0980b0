use Rattle.std.proofs.Common.{◌≤◌, sym, rules}
use Rattle.ob_core.proofs.SoundLemmas.{IsSound-new}
use Rattle.ob_core.proofs.world.World.new.Goals as goal

pub invariant_of-result : goal.invariant_of-result
invariant_of-result c =
    let ordered : c.args.marks.low ≤ c.args.marks.high = search rules in
    rw c.in_ok-lanes.ensures (IsSound-new c.args.marks c.args.starts.now ordered (sym c.in_default.ensures))
