use Rattle.std.proofs.Common.{sym, ap, ◌∙◌, subst}
use Rattle.ob_shared_connection.specs.Calls.{IsLock}
use Rattle.ob_shared_connection.specs.Steps.{caller_held}
use Rattle.ob_shared_connection.specs.Values.{HandleValue}
use Rattle.ob_shared_connection.proofs.Taking.{accepted_if_in_front}
use Rattle.ob_shared_connection.proofs.transport.Transport.take_away.Goals as goal

pub take_away-sent-requires-clause-accepted : goal.take_away-sent-requires-clause-accepted
take_away-sent-requires-clause-accepted g c =
    let locked = caller_held c.lock.new.self in
    accepted_if_in_front c.args.self.now c.args.bytes locked
    (ap (λ (handle : HandleValue). handle.sends) (sym c.self.view_is) ∙ c.self.invariant.1)
    (subst (λ (handle : HandleValue). IsLock handle locked) c.self.view_is c.lock.ensures.locks) c.requires
