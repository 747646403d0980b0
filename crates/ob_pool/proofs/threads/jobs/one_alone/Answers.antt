use Rattle.std.proofs.Common.{◌≡◌, ◌∙◌}
use Rattle.std.proofs.lemmas.Result.{IfOk-at_ok}
use Rattle.ob_pool.specs.Inside.{AreTrueIfFit, counts_in}
use Rattle.ob_pool.specs.Threads.{IsNumbered, IsRoomy, asked, done_by}
use Rattle.ob_pool.proofs.Counted.{one_counted}
use Rattle.ob_pool.proofs.Jobs.{last_holds, last_room, one_done}
use Rattle.ob_pool.proofs.threads.jobs.one_alone.Goals as goal

pub run-lane-requires-clause-roomy : goal.run-lane-requires-clause-roomy
run-lane-requires-clause-roomy g c =
    last_holds (IsRoomy c.args.context.now.estimate c.args.context.now.task) c.args.writers.jobs.items c.pop-last.new.self.items
    c.in-Some.job c.in-Some.ensures.items c.requires.ready.roomy

pub run-lane-requires-clause-numbered : goal.run-lane-requires-clause-numbered
run-lane-requires-clause-numbered g c =
    last_holds (IsNumbered c.args.context.now.writers) c.args.writers.jobs.items c.pop-last.new.self.items c.in-Some.job
    c.in-Some.ensures.items c.requires.ready.numbered

pub run-lane-requires-clause-room : goal.run-lane-requires-clause-room
run-lane-requires-clause-room g c =
    last_room c.args.writers.jobs.items c.pop-last.new.self.items c.in-Some.job c.args.writers.lane.lane.room c.in-Some.ensures.items
    c.requires.ready.room

pub returns-in-Ok : goal.returns-in-Ok
returns-in-Ok g c = record {
  lane_back = c.run-lane.ensures.lane;
  done = one_done c.args.writers.jobs c.pop-last.new.self.items c.in-Some.job c.reserve.new.self.items
      c.push_reserved.new.self.items c.in-Ok.done c.requires.few c.in-Some.ensures.items
      (c.reserve.ensures.items ∙ c.new-dones.ensures.items) c.push_reserved.ensures.items
      (IfOk-at_ok (λ done. done_by done ≡ asked c.in-Some.job) c.in-Ok.is c.run-lane.ensures.done);
  counted = one_counted c.args.context.now.writers c.reserve.new.self.items c.push_reserved.new.self.items c.in-Ok.done
      c.run-lane.result.counts (c.reserve.ensures.items ∙ c.new-dones.ensures.items) c.push_reserved.ensures.items
      (IfOk-at_ok (λ done. AreTrueIfFit (counts_in c.args.context.now.writers done.receipts) c.run-lane.result.counts)
      c.in-Ok.is c.run-lane.ensures.counted);
  fault = tt;
}
