use Rattle.std.proofs.Common.{◌≤◌, List, ℕ, length, take, ap, ◌∙◌, subst, Ok}
use Rattle.ob_connection.specs.Calls.{with_more}
use Rattle.ob_connection.proofs.Offered.{joined}
use Rattle.ob_shared_connection.specs.Sending.{Asked, Told}
use Rattle.ob_shared_connection.proofs.transport.sending.ask_by.Goals as goal

pub returns-in-Ok : goal.returns-in-Ok
returns-in-Ok g c =
    let before : Told = (g.S.Socket.sent c.args.socket.now, g.S.Socket.calls c.args.socket.now) in
    let after : Told = (g.S.Socket.sent c.write_vectored.new.self, g.S.Socket.calls c.write_vectored.new.self) in
    let pieces = take (length c.args.blocks.now) c.lay.new.pieces in
    let all = joined pieces in
    subst (λ (blocks : List (List ℕ)). Asked blocks before (Ok c.in-Ok.count) after) c.lay.ensures.laid (record {
      within = subst (λ (bytes : List ℕ). c.in-Ok.count ≤ length bytes) all c.in-Ok.ensures.within;
      sent = c.in-Ok.ensures.taken ∙ ap (λ (bytes : List ℕ). with_more before.0 (take c.in-Ok.count bytes)) all;
      calls = c.in-Ok.ensures.called;
    })
