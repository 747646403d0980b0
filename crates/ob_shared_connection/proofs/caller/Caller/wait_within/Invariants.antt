use Rattle.ob_shared_connection.specs.Steps.{IsHolder, caller_handle, caller_held}
use Rattle.ob_shared_connection.specs.Calls.{IsLock}
use Rattle.ob_shared_connection.proofs.caller.Caller.wait_within.Given as goal

-- it has the lock, and all that it has seen since was under the lock
abbrev pub invariant-waits : goal.invariant-waits
invariant-waits g l = record {
  holds : IsHolder l.self;
  locks : IsLock (caller_handle l.initial.self) (caller_held l.self);
}
