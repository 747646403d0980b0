use Rattle.std.proofs.Common.{◌+◌, ◌-◌, ◌*◌, length}
use Rattle.ob_pool.proofs.threads.jobs.+run.Given as goal

abbrev pub decreases-run_all : goal.decreases-run_all
decreases-run_all g l = 3 * length l.writers.jobs.items

abbrev pub decreases-both_halves : goal.decreases-both_halves
decreases-both_halves g l = 3 * (length l.front.jobs.items + length l.back.jobs.items) - 1

abbrev pub decreases-both_halves-first : goal.decreases-both_halves-first
decreases-both_halves-first g l = 3 * length l.front.jobs.items + 1

abbrev pub decreases-both_halves-second : goal.decreases-both_halves-second
decreases-both_halves-second g l = 3 * length l.back.jobs.items + 1
