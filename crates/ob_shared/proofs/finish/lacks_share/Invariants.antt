use Rattle.std.proofs.Common.{◌≡◌, ℕ, ◌<◌, true}
use Rattle.ob_shared.specs.Calls.{has_handed_in}
use Rattle.ob_shared.proofs.finish.lacks_share.Given as goal

abbrev pub invariant-loop-caller : goal.invariant-loop-caller
invariant-loop-caller g l = (earlier : ℕ) → earlier < l.caller → has_handed_in earlier l.dones ≡ true
