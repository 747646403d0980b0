use Rattle.ob_seq.proofs.Laid.{run_in_last, run_there, all_countable}
use Rattle.ob_seq.proofs.entries.Entries.run_at.Goals as goal

pub returns-then-place-ahead-clause-run : goal.returns-then-place-ahead-clause-run
returns-then-place-ahead-clause-run c =
    run_in_last c.self.inside c.self.view_is c.count_of-ahead.ensures c.requires c.if-place-ahead.true c.run_in.ensures.run

pub returns-then-place-ahead-clause-few : goal.returns-then-place-ahead-clause-few
returns-then-place-ahead-clause-few c = all_countable c.self.inside c.self.view_is c.self.invariant

pub returns-clause-run : goal.returns-clause-run
returns-clause-run c =
    run_there c.self.inside c.self.view_is c.found_in-index.ensures c.segment_at.ensures c.run_in-2.ensures.run

pub returns-clause-few : goal.returns-clause-few
returns-clause-few c = all_countable c.self.inside c.self.view_is c.self.invariant
