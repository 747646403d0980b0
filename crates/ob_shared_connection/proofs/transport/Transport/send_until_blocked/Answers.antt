use Rattle.std.proofs.Common.{max, arith}
use Rattle.ob_shared_connection.specs.Sending.{Told}
use Rattle.ob_shared_connection.proofs.Turns.{fails, one_made, one_more, stops}
use Rattle.ob_shared_connection.proofs.transport.Transport.send_until_blocked.Goals as goal

pub turns-init : goal.turns-init
turns-init g c =
    one_made c.args.max_bytes c.args.self.now (g.S.Socket.sent c.args.socket.now, g.S.Socket.calls c.args.socket.now)
    c.in-Ok.sent c.first-total.result c.send_once.new.self
    (g.S.Socket.sent c.send_once.new.socket, g.S.Socket.calls c.send_once.new.socket) c.in-Ok.ensures
    c.first-total.ensures.reports c.first-total.ensures.ends

pub returns-then-not-goes_on : goal.returns-then-not-goes_on
returns-then-not-goes_on g c =
    let now : Told = (g.S.Socket.sent c.turns.socket, g.S.Socket.calls c.turns.socket) in
    let fewer = c.turns-test.true in
    let left = c.saturating_sub-turn-end.ensures in
    stops c.args.max_bytes c.args.self.now (g.S.Socket.sent c.args.socket.now, g.S.Socket.calls c.args.socket.now)
    c.turns.turn c.turns.total c.turns.self now c.turns.invariant (max 1 c.args.max_turns) (omega arith)
    (λ used. absurd (c.goes_on.ensures.no c.if-not-goes_on.true used))

pub returns-in-Err-send_once : goal.returns-in-Err-send_once
returns-in-Err-send_once g c =
    let now : Told = (g.S.Socket.sent c.turns.socket, g.S.Socket.calls c.turns.socket) in
    let fewer = c.turns-test.true in
    let left = c.saturating_sub-turn-end.ensures in
    fails c.args.max_bytes c.args.self.now (g.S.Socket.sent c.args.socket.now, g.S.Socket.calls c.args.socket.now)
    c.turns.turn c.turns.total c.turns.self now c.turns.invariant (max 1 c.args.max_turns) c.in-Err-send_once.fault
    c.stopped.result c.send_once-in-turns.new.self
    (g.S.Socket.sent c.send_once-in-turns.new.socket, g.S.Socket.calls c.send_once-in-turns.new.socket) (omega arith)
    (c.goes_on.ensures.yes c.if-not-goes_on.false) c.in-Err-send_once.ensures c.stopped.ensures

pub turns-preserved : goal.turns-preserved
turns-preserved g c =
    let now : Told = (g.S.Socket.sent c.turns.socket, g.S.Socket.calls c.turns.socket) in
    one_more c.args.max_bytes c.args.self.now (g.S.Socket.sent c.args.socket.now, g.S.Socket.calls c.args.socket.now)
    c.turns.turn c.turns.total c.turns.self now c.turns.invariant c.in-Ok-send_once.sent c.added-total.result
    c.send_once-in-turns.new.self
    (g.S.Socket.sent c.send_once-in-turns.new.socket, g.S.Socket.calls c.send_once-in-turns.new.socket)
    (c.goes_on.ensures.yes c.if-not-goes_on.false) c.in-Ok-send_once.ensures c.added-total.ensures.reports
    c.added-total.ensures.ends

pub returns : goal.returns
returns g c =
    let now : Told = (g.S.Socket.sent c.turns.socket, g.S.Socket.calls c.turns.socket) in
    let none = c.turns-test.false in
    let left = c.saturating_sub-turn-end.ensures in
    let within = c.turns.auto in
    stops c.args.max_bytes c.args.self.now (g.S.Socket.sent c.args.socket.now, g.S.Socket.calls c.args.socket.now)
    c.turns.turn c.turns.total c.turns.self now c.turns.invariant (max 1 c.args.max_turns) (omega arith)
    (λ used. omega arith)
