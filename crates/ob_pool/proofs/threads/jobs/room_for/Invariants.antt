use Rattle.std.proofs.Common.{◌≡◌, take}
use Rattle.ob_pool.specs.Threads.{room_for}
use Rattle.ob_pool.proofs.threads.jobs.room_for.Given as goal

abbrev pub invariant-loop-job : goal.invariant-loop-job
invariant-loop-job g l = l.room ≡ room_for (take l.job-index l.jobs)
