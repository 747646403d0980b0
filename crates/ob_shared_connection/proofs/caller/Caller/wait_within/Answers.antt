use Rattle.ob_shared_connection.specs.Steps.{caller_handle, caller_held}
use Rattle.ob_shared_connection.proofs.Waiting.{lock_itself, locked_anew, locked_still}
use Rattle.ob_shared_connection.proofs.caller.Caller.wait_within.Goals as goal

pub waits-init : goal.waits-init
waits-init g c = record {
  holds = c.lock.ensures.holds;
  locks = lock_itself (caller_handle c.args.self.now) (caller_held c.lock.new.self) c.lock.ensures.locks;
}

pub returns-then-is_due-clause-locks : goal.returns-then-is_due-clause-locks
returns-then-is_due-clause-locks g c =
    locked_still (caller_handle c.args.self.now) (caller_held c.lock.new.self) (caller_held c.waits.self)
    (caller_held c.moment-moment.new.self) c.lock.ensures.locks c.waits.invariant.locks c.moment-moment.ensures.same

pub waits-preserved : goal.waits-preserved
waits-preserved g c = record {
  holds = c.lock-in-waits.ensures.holds;
  locks = locked_anew (caller_handle c.lock.new.self) (caller_held c.waits.self) (caller_held c.moment-moment.new.self)
      (caller_held c.lock-in-waits.new.self) (caller_handle c.leave_to_wait-place.new.self) c.waits.invariant.locks
      c.moment-moment.ensures.same c.leave_to_wait-place.ensures.same c.lock-in-waits.ensures.locks;
}

pub returns-in_default-clause-locks : goal.returns-in_default-clause-locks
returns-in_default-clause-locks g c =
    locked_still (caller_handle c.args.self.now) (caller_held c.lock.new.self) (caller_held c.waits.self)
    (caller_held c.moment-moment.new.self) c.lock.ensures.locks c.waits.invariant.locks c.moment-moment.ensures.same
