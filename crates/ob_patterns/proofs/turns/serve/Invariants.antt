use Rattle.ob_patterns.proofs.Serving.{Served}
use Rattle.ob_patterns.proofs.turns.serve.Given as goal

abbrev pub invariant-loop-turn : goal.invariant-loop-turn
invariant-loop-turn g l =
    Served l._turn l.fn.connection (g.P.Socket.sent l.fn.peer) (g.P.Socket.calls l.fn.peer) l.connection
    (g.P.Socket.sent l.peer) (g.P.Socket.calls l.peer)
