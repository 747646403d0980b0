use Rattle.ob_shared_connection.proofs.Turns.{SoFar}
use Rattle.ob_shared_connection.proofs.transport.Transport.send_until_blocked.Given as goal

-- the turns until now were made, and the total is what is reported of them
abbrev pub invariant-turns : goal.invariant-turns
invariant-turns g l =
    SoFar l.turn l.fn.max_bytes l.fn.self (g.S.Socket.sent l.fn.socket, g.S.Socket.calls l.fn.socket) l.total l.self
    (g.S.Socket.sent l.socket, g.S.Socket.calls l.socket)
