use Rattle.ob_shared_connection.specs.Steps.{caller_held}
use Rattle.ob_shared_connection.proofs.caller.Caller.settle_under_lock.Goals as goal

pub returns-clause-under : goal.returns-clause-under
returns-clause-under g c = record {
  before = caller_held c.lock.new.self;
  after = caller_held c.settle-told.new.self;
  locks = c.lock.ensures.locks;
  does = c.settle-told.ensures.settles;
  unlocks = c.unlock.ensures.same;
}
