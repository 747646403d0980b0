use Rattle.std.proofs.Common.{rules}
use Rattle.std.specs.Prelude.{Err}
use Rattle.ob_transport.specs.Inside.{offer_of}
use Rattle.ob_transport.specs.Pass.{standing}
use Rattle.ob_transport.specs.declared.fault.PassFault.TheVariants.{Unbooked}
use Rattle.ob_transport.proofs.Asked.{asked_also, offered_stands}
use Rattle.ob_transport.proofs.Offers.{accepted_there, ends_there, full_of_offer, idle_of_offer, offer_there}
use Rattle.ob_transport.proofs.Passes.{alike_of, pass_grows}
use Rattle.ob_transport.proofs.sending.pass.Goals as goal

pub returns-clause-by_front : goal.returns-clause-by_front
returns-clause-by_front g c =
    let before = standing (g.B.Booked.history c.args.booked.now) (g.S.Sink.content c.args.sink.now) in
    let after = standing (g.B.Booked.history c.act.new.booked) (g.S.Sink.content c.act.new.sink) in
    ends_there c.args.limits (g.B.Booked.caller c.args.booked.now) before c.buffer.result.now
    (offer_of c.in_ok-next.next) c.act.result after
    c.buffer.ensures.stands c.buffer.ensures.settings c.in_ok-next.ensures.offer c.act.ensures.ends

pub returns-clause-idle : goal.returns-clause-idle
returns-clause-idle g c is =
    let before = standing (g.B.Booked.history c.args.booked.now) (g.S.Sink.content c.args.sink.now) in
    let there = offer_there c.args.limits before c.buffer.result.now (offer_of c.in_ok-next.next)
    c.buffer.ensures.stands c.buffer.ensures.settings c.in_ok-next.ensures.offer in
    let ends = rw is at c.act.ensures.ends in
    idle_of_offer c.args.limits (g.B.Booked.caller c.args.booked.now) before _ (rw there at ends)

pub returns-clause-accounted : goal.returns-clause-accounted
returns-clause-accounted g c =
    let before = standing (g.B.Booked.history c.args.booked.now) (g.S.Sink.content c.args.sink.now) in
    let all = accepted_there before c.buffer.result.now c.buffer.ensures.stands c.buffer.ensures.settings in
    let grows = pass_grows before c.args.limits (g.B.Booked.caller c.args.booked.now) all in
    record {
      alike = alike_of c.act.result (grows c.act.result _ (returns-clause-by_front g c));
      unbooked = λ taken is. grows (Err (Unbooked taken)) _ (rw is at (returns-clause-by_front g c));
      failures = search rules;
      full = λ is. full_of_offer (g.B.Booked.caller c.args.booked.now) (offer_of c.in_ok-next.next) before _
          (rw is at c.act.ensures.ends);
    }

pub returns-clause-asks : goal.returns-clause-asks
returns-clause-asks g c =
    let before = standing (g.B.Booked.history c.args.booked.now) (g.S.Sink.content c.args.sink.now) in
    let there = offer_there c.args.limits before c.buffer.result.now (offer_of c.in_ok-next.next)
    c.buffer.ensures.stands c.buffer.ensures.settings c.in_ok-next.ensures.offer in
    asked_also g.S.Sink.does _ _ c.args.sink.now _ _
    (offered_stands c.args.limits before (offer_of c.in_ok-next.next) there) c.act.ensures.asks
