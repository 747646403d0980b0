use Rattle.std.proofs.Common.{inl, inr, refl, sym, ap, ◌∙◌, subst, Result, Ok, Err}
use Rattle.ob_shared_connection.specs.Calls.{UnderLock}
use Rattle.ob_shared_connection.specs.Sending.{Offering, SendsOnce, Told}
use Rattle.ob_shared_connection.specs.declared.offered.Offered.{Offered}
use Rattle.ob_shared_connection.specs.declared.transport.sending.SendFault.{SendFault}
use Rattle.ob_shared_connection.proofs.Sending.{asked_for, taken_in_front}
use Rattle.ob_shared_connection.proofs.transport.Transport.send_once.Goals as goal

pub returns-in-Nothing : goal.returns-in-Nothing
returns-in-Nothing g c =
    inr (
      subst (λ (result : Result Offered SendFault).
          UnderLock c.args.self.now (Offering c.args.max_count c.args.max_bytes result) c.offer.new.self)
          (c.in_ok-sent.was ∙ ap Ok c.in-Nothing.is) c.offer.ensures,
      refl,
    )

pub returns-in-Err : goal.returns-in-Err
returns-in-Err g c =
    let before : Told = (g.S.Socket.sent c.args.socket.now, g.S.Socket.calls c.args.socket.now) in
    let after : Told = (g.S.Socket.sent c.ask.new.socket, g.S.Socket.calls c.ask.new.socket) in
    subst (λ (fault : SendFault).
    SendsOnce c.args.max_count c.args.max_bytes c.args.self.now before (Err fault) c.offer.new.self after)
    (sym c.in-Err.ensures.broken.told) (record {
      asks = asked_for c.args.max_count c.args.max_bytes c.args.self.now c.offer.new.self before after c.offer.result
          c.in-Blocks.blocks c.as_slice.result.now c.ask.result c.offer.ensures (c.in_ok-sent.was ∙ ap Ok c.in-Blocks.is)
          c.as_slice.ensures.value c.ask.ensures;
      says = c.in-Err.ensures.broken.says;
    })

pub take_away-requires : goal.take_away-requires
take_away-requires g c =
    let before : Told = (g.S.Socket.sent c.args.socket.now, g.S.Socket.calls c.args.socket.now) in
    let after : Told = (g.S.Socket.sent c.ask.new.socket, g.S.Socket.calls c.ask.new.socket) in
    taken_in_front c.args.max_count c.args.max_bytes c.args.self.now c.offer.new.self before after
    (asked_for c.args.max_count c.args.max_bytes c.args.self.now c.offer.new.self before after c.offer.result
    c.in-Blocks.blocks c.as_slice.result.now c.ask.result c.offer.ensures (c.in_ok-sent.was ∙ ap Ok c.in-Blocks.is)
    c.as_slice.ensures.value c.ask.ensures) c.in-Ok.bytes c.in-Ok.ensures.taken

pub returns : goal.returns
returns g c =
    let before : Told = (g.S.Socket.sent c.args.socket.now, g.S.Socket.calls c.args.socket.now) in
    let after : Told = (g.S.Socket.sent c.ask.new.socket, g.S.Socket.calls c.ask.new.socket) in
    inl (record {
      looked = c.offer.new.self;
      asks = asked_for c.args.max_count c.args.max_bytes c.args.self.now c.offer.new.self before after c.offer.result
          c.in-Blocks.blocks c.as_slice.result.now c.ask.result c.offer.ensures (c.in_ok-sent.was ∙ ap Ok c.in-Blocks.is)
          c.as_slice.ensures.value c.ask.ensures;
      sent = c.take_away.ensures.bytes ∙ c.in-Ok.ensures.taken;
      blocked = c.take_away.ensures.blocked ∙ c.in-Ok.ensures.blocked;
      takes = c.take_away.ensures.takes;
    })
