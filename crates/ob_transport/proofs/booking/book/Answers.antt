use Rattle.ob_transport.specs.Pass.{standing}
use Rattle.ob_transport.proofs.Booked.{book_sends}
use Rattle.ob_transport.proofs.Offers.{accepted_there}
use Rattle.ob_transport.proofs.booking.book.Goals as goal

pub returns-clause-sent : goal.returns-clause-sent
returns-clause-sent g c bytes rest count begins =
    let history = g.B.Booked.history c.args.booked.now in
    let before = standing history (record { bytes = bytes; units = 0; failures = 0 }) in
    book_sends history (g.B.Booked.history c.call.new.self)
    (g.B.Booked.caller c.args.booked.now) c.args.taken c.call.result bytes rest
    (accepted_there before c.buffer.result.now c.buffer.ensures.stands c.buffer.ensures.settings)
    count begins c.call.ensures.is_call
