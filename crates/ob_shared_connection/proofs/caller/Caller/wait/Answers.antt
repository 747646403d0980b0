use Rattle.ob_shared_connection.specs.Steps.{caller_handle, caller_held}
use Rattle.ob_shared_connection.proofs.Waiting.{locked_anew, locked_still}
use Rattle.ob_shared_connection.proofs.caller.Caller.wait.Goals as goal

pub returns-then-is_due-clause-locks : goal.returns-then-is_due-clause-locks
returns-then-is_due-clause-locks g c =
    locked_still (caller_handle c.args.self.now) (caller_held c.lock.new.self) (caller_held c.waits.self)
    (caller_held c.moment-moment.new.self) c.lock.ensures.locks c.waits.invariant.locks c.moment-moment.ensures.same

pub waits-preserved : goal.waits-preserved
waits-preserved g c = record {
  holds = c.lock-in-waits.ensures.holds;
  locks = locked_anew (caller_handle c.lock.new.self) (caller_held c.waits.self) (caller_held c.moment-moment.new.self)
      (caller_held c.lock-in-waits.new.self) (caller_handle c.leave_to_wait-place.new.self) c.waits.invariant.locks
      c.moment-moment.ensures.same c.leave_to_wait-place.ensures.same c.lock-in-waits.ensures.locks;
}
