use Rattle.std.proofs.Common.{◌≡◌}
use Rattle.ob_pool.proofs.threads.heed.wait_for_room.Given as goal

abbrev pub invariant-naps : goal.invariant-naps
invariant-naps g l = l.share.maker ≡ l.fn.share.maker
