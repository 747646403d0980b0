-- How a plan keeps its commands, plans without a fault, what is counted of records and of receipts, all numbers at
-- once, and what callers hand in at the end of a history, all together. No public clause cites this module.
use Rattle.std.specs.List.{All, range_with_len}
use Rattle.std.specs.Prelude.{◌≡◌, ℕ, ◌<◌, ◌≤◌, List, length, drop, replicate, flat_map, slice_index_or, map, take}
use Rattle.std.specs.Prelude.{None, ◌+◌, ◌^◌, cond, [], count_by}
use Rattle.ob_types.specs.Marks.{Marks}
use Rattle.ob_types.specs.Traits.{is_write}
use Rattle.ob_types.specs.declared.command.Command.{Command}
use Rattle.ob_types.specs.declared.estimate.Estimate.{Estimate}
use Rattle.ob_types.specs.declared.promise.Outcome.{Outcome}
use Rattle.ob_types.specs.declared.promise.PromiseId.{PromiseId}
use Rattle.ob_history.specs.History.{IsBeginning, record_of}
use Rattle.ob_history.specs.declared.receipt.Receipt.{Receipt}
use Rattle.ob_history.specs.declared.record.Record.{Record}
use Rattle.ob_shared.specs.Calls.{HandsInAll, IsAsOpened, Opened, Handed, made_by}
use Rattle.ob_pool.specs.Drive.{room_of, rooms_of, plans_fault}
use Rattle.ob_pool.specs.Report.{bits_of, cancels_of, flushes_of, refused_of, settled_as, taken_of, writes_of}
use Rattle.ob_types.specs.Replies.{is_cancelled, is_failed, is_success}
use Rattle.ob_pool.specs.Report.{is_cancel, is_flush, is_user_bit, removed_by}
use Rattle.ob_pool.specs.Report.{IsCounted, AreAtRest}
use Rattle.ob_pool.specs.declared.plan.Run.{Run}
use Rattle.ob_pool.specs.declared.report.Report.{Report}
use Rattle.ob_pool.specs.declared.report.counts.Counts.{Counts}

-- the commands of a run: the one command, as often as it is given
abbrev pub commands_in_run : Run → List Command
commands_in_run run = replicate run.count run.command

-- the commands of runs, run by run
abbrev pub commands_of : List Run → List Command
commands_of runs = flat_map commands_in_run runs

-- no run is empty, and there are as many commands as are counted
pub record HasRuns (runs : List Run) (count : ℕ) : Type 0 where
  pub some : All (λ run. 0 < run.count) runs
  pub counted : count ≡ length (commands_of runs)

-- the commands from a run on, but for those of it that were given
abbrev pub commands_from : List Run → ℕ → ℕ → List Command
commands_from runs at done = drop done (commands_of (drop at runs))

-- no run is empty, and fewer of a run's commands were given than it has
pub record IsWithinRun (runs : List Run) (at done : ℕ) : Type 0 where
  pub some : All (λ run. 0 < run.count) runs
  pub fewer : (other : Run) → at < length runs → done < (slice_index_or runs at other).count
  pub none : length runs ≤ at → done ≡ 0

-- how messages are counted and what a hand-off adds, plans, the rooms of their writers, and the room of all plans
-- together
pub record Checked : Type 0 where
  pub estimate : Estimate
  pub task : ℕ
  pub plans : List (List Command)
  pub rooms : List ℕ
  pub room : ℕ

-- the rooms of plans stand beside them, each at its writer's place, and the room of all together
pub record HaveRooms (checked : Checked) : Type 0 where
  pub each : take (length checked.plans) checked.rooms ≡ map (room_of checked.estimate checked.task) checked.plans
  pub all : checked.room ≡ rooms_of checked.estimate checked.task checked.plans

-- plans have no fault, and their rooms stand beside them
pub record AreChecked (checked : Checked) : Type 0 where
  pub faultless : plans_fault checked.estimate checked.task checked.plans ≡ None
  pub rooms : HaveRooms checked

-- the counts of records, of which *n* callers are writers
abbrev pub counts_of : ℕ → List Record → Counts
counts_of writers records = record {
  writes = writes_of records;
  flushes = flushes_of records;
  cancels = cancels_of records;
  bits = bits_of records;
  refused = refused_of writers records;
  taken = taken_of records;
  success = settled_as is_success records;
  failed = settled_as is_failed records;
  cancelled = settled_as is_cancelled records;
}

-- nothing is counted of no records
abbrev pub no_counts : Counts
no_counts = counts_of 0 []

-- what an accepted command is counted as
abbrev pub counts_by : Command → Counts
counts_by command = record no_counts {
  writes = cond (is_write command) 1 0;
  flushes = cond (is_flush command) 1 0;
  cancels = cond (is_cancel command) 1 0;
  bits = cond (is_user_bit command) 1 0;
  taken = removed_by command;
}

-- what an outcome is counted as
abbrev pub counts_as : Outcome → Counts
counts_as outcome = record no_counts {
  success = cond (is_success outcome) 1 0;
  failed = cond (is_failed outcome) 1 0;
  cancelled = cond (is_cancelled outcome) 1 0;
}

-- what settlements are counted as
abbrev pub counts_with : List (PromiseId × Outcome) → Counts
counts_with settlements = record no_counts {
  success = count_by (λ settlement. is_success settlement.1) settlements;
  failed = count_by (λ settlement. is_failed settlement.1) settlements;
  cancelled = count_by (λ settlement. is_cancelled settlement.1) settlements;
}

-- the numbers of two counts together
abbrev pub plus : Counts → Counts → Counts
plus counts more = record {
  writes = counts.writes + more.writes;
  flushes = counts.flushes + more.flushes;
  cancels = counts.cancels + more.cancels;
  bits = counts.bits + more.bits;
  refused = counts.refused + more.refused;
  taken = counts.taken + more.taken;
  success = counts.success + more.success;
  failed = counts.failed + more.failed;
  cancelled = counts.cancelled + more.cancelled;
}

-- the counts of receipts, of which *n* callers are writers, are those of the records that they are of
abbrev pub counts_in : ℕ → List Receipt → Counts
counts_in writers receipts = counts_of writers (map record_of receipts)

-- each number fits 64 bits
pub record DoFit (counts : Counts) : Type 0 where
  pub writes : counts.writes < 2 ^ 64
  pub flushes : counts.flushes < 2 ^ 64
  pub cancels : counts.cancels < 2 ^ 64
  pub bits : counts.bits < 2 ^ 64
  pub refused : counts.refused < 2 ^ 64
  pub taken : counts.taken < 2 ^ 64
  pub success : counts.success < 2 ^ 64
  pub failed : counts.failed < 2 ^ 64
  pub cancelled : counts.cancelled < 2 ^ 64

-- numbers that are counted by somebody who does not know whether they fit are the true ones, if those do
abbrev pub AreTrueIfFit : Counts → Counts → Type 0
AreTrueIfFit true_counts counts = DoFit true_counts → counts ≡ true_counts

-- all receipts that callers hand in, caller by caller
abbrev pub receipts_in : List Handed → List Receipt
receipts_in handed = flat_map (λ one. one.receipts) handed

-- the receipts that callers hand in are counted, if their counts fit
abbrev pub AreCounted : ℕ → List Handed → Counts → Type 0
AreCounted writers handed counts = AreTrueIfFit (counts_in writers (receipts_in handed)) counts

-- who had counted some receipts has then counted these, if their counts fit
abbrev pub KeepCounting : ℕ → List Receipt → Counts → List Receipt → Counts → Type 0
KeepCounting writers receipts counts after told =
    AreTrueIfFit (counts_in writers receipts) counts → AreTrueIfFit (counts_in writers after) told

-- callers that hand in are *n* writers, who are numbered from 0 on, and the one behind them
pub record AreNumbered (writers : ℕ) (dones : List Handed) (done : Handed) : Type 0 where
  pub callers : map (λ one. one.maker.caller) dones ≡ range_with_len 0 (length dones)
  pub count : length dones ≡ writers
  pub last : done.maker.caller ≡ writers

-- callers have handed in a whole history: each has handed in all its records, with a receipt of each that it made; they
-- made as many as there are, and what each had seen begins them
pub record HaveHandedIn (records : List Record) (handed : List Handed) : Type 0 where
  pub own : All (HandsInAll records) handed
  pub made : All (λ one. one.maker.made ≡ length one.receipts) handed
  pub counted : length records ≡ made_by handed
  pub saw : All (λ one. IsBeginning one.sight.seen records) handed

-- a report tells of threads that have ended, of which *n* were writers: its history was kept as it was opened, the
-- callers have handed it in, its numbers are counted, and the words of the hand-off have come to rest
pub record TellsEnd (opening : Opened) (marks : Marks) (writers : ℕ) (callers : List Handed) (report : Report)
    : Type 0 where
  pub opened : IsAsOpened opening report.recorded
  pub handed : HaveHandedIn report.recorded.records callers
  pub counts : IsCounted writers report
  pub rest : AreAtRest marks report.hand
