use Rattle.ob_patterns.proofs.Handing.{HandsOn}
use Rattle.ob_patterns.proofs.broadcasting.broadcast.Given as goal

abbrev pub invariant-loop-connection : goal.invariant-loop-connection
invariant-loop-connection l =
    HandsOn l.fn.connections l.fn.bytes l.reached l.connection-index l.connections
