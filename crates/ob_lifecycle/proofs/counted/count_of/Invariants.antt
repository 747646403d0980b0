use Rattle.std.proofs.Common.{◌≡◌, ◌+◌, length}
use Rattle.ob_lifecycle.proofs.counted.count_of.Given as goal

abbrev pub invariant-loop-message : goal.invariant-loop-message
invariant-loop-message l = l.count + length l.messages ≡ length l.fn.messages

abbrev pub decreases-loop-message : goal.decreases-loop-message
decreases-loop-message l = length l.messages
