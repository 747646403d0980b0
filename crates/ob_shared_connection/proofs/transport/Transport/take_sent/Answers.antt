use Rattle.std.proofs.Common.{sym, subst}
use Rattle.ob_shared_connection.specs.Sending.{AreInFront}
use Rattle.ob_shared_connection.specs.Values.{HandleValue}
use Rattle.ob_shared_connection.proofs.Taking.{taken_if_in_front}
use Rattle.ob_shared_connection.proofs.transport.Transport.take_sent.Goals as goal

pub returns-clause-accepted : goal.returns-clause-accepted
returns-clause-accepted g c = λ in_front.
    taken_if_in_front _ c.args.n c.call.result _ c.self.invariant.1 c.call.ensures.under
    (subst (λ (handle : HandleValue). AreInFront handle c.args.n) (sym c.self.view_is) in_front)
