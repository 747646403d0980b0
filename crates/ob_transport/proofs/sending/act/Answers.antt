use Rattle.std.proofs.Common.{refl}
use Rattle.ob_transport.specs.Inside.{IsOffered, offer_of}
use Rattle.ob_transport.specs.Pass.{standing}
use Rattle.ob_transport.proofs.Asked.{clears_unasked, unasked}
use Rattle.ob_transport.proofs.sending.act.Goals as goal

pub returns-in-Clear-clause-asks : goal.returns-in-Clear-clause-asks
returns-in-Clear-clause-asks g c =
    let sink = g.S.Sink.content c.args.sink.now in
    unasked g.S.Sink.does (IsOffered (offer_of c.args.next)) c.args.sink.now c.args.sink.now _
    (clears_unasked (g.B.Booked.caller c.args.booked.now) c.in-Clear.command
    (standing (g.B.Booked.history c.args.booked.now) sink) (standing (g.B.Booked.history c.clear.new.booked) sink)
    c.clear.result (c.clear.ensures.clears sink)) refl
