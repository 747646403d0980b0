use Rattle.std.proofs.Common.{◌≡◌, ◌+◌, ◌≤◌, ◌++◌, length}
use Rattle.std.specs.Prelude.{vec_capacity, vec_len}
use Rattle.ob_pool.specs.Drive.{room_of}
use Rattle.ob_pool.specs.Inside.{AreTrueIfFit, counts_in}
use Rattle.ob_pool.specs.Threads.{IsBack, commands_in}
use Rattle.ob_pool.proofs.threads.job.Job.run.Given as goal

abbrev pub invariant-steps : goal.invariant-steps
invariant-steps g l = record {
  lane : IsBack l.fn.lane l.lane;
  roomy : room_of l.context.estimate l.context.task l.rest ≤ l.fn.self.room;
  caller : l.so_far.share.maker.caller ≡ l.fn.self.maker.caller;
  made : l.so_far.share.maker.made ≡ l.fn.self.maker.made + vec_len l.so_far.receipts;
  commands : commands_in l.so_far.receipts.items ++ l.rest ≡ l.fn.self.plan;
  left : l.step + length l.rest ≡ l.steps;
  places : vec_len l.so_far.receipts + length l.rest ≤ vec_capacity l.so_far.receipts;
  counted : AreTrueIfFit (counts_in l.context.writers l.so_far.receipts.items) l.counts;
}
