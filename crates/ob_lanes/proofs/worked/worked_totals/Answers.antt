use Rattle.std.proofs.Common.{◌≡◌, ◌≤◌, ◌%◌, ◌+◌, ◌++◌, ℕ, List, [], None, refl, ap, arith}
use Rattle.std.specs.List.{sum_by}
use Rattle.ob_types.specs.Marks.{total_half}
use Rattle.ob_core.specs.World.{owed_by}
use Rattle.ob_core.specs.declared.lane_step.LaneStep.TheVariants.{Load}
use Rattle.ob_lanes.specs.Calls.{IsTotalRead}
use Rattle.ob_lanes.specs.Run.{one_step, RunningLane, room_outside, Sees}
use Rattle.ob_lanes.specs.Worked.{has_added, runs_alone, shows_mark}
use Rattle.ob_lanes.specs.declared.facts.Made.{Made}
use Rattle.ob_lanes.specs.declared.facts.Move.{Move}
use Rattle.ob_lanes.proofs.WorkedRuns.{nothing_seen, early_seen, late_seen}
use Rattle.ob_lanes.proofs.worked.worked_totals.Goals as goal

-- a lane reads the total of what it finds, if it sees that and is as it was but for the step
reads : (old : RunningLane) (found : ℕ) (seen : List (List Move))
    → Sees old.words.grant old.seen Load found old.name old.lane (old.made ++ one_step Load found) seen
    → owed_by old.lane ≤ total_half found → total_half found ≤ owed_by old.lane + room_outside old
    → IsTotalRead old (total_half found) (record old { made = old.made ++ one_step Load found; seen = seen })
reads old found seen sees least most = record {
  found = found;
  steps = record { words = refl; made = refl; same = record { name = refl; splits = refl; taken = refl }; sees = sees };
  total_is = refl;
  lane = refl;
  least = least;
  most = most;
}

pub returns-clause-reads_total : goal.returns-clause-reads_total
returns-clause-reads_total c id = (
  reads (has_added id) 60 _ early_seen (omega arith) (omega arith),
  reads (has_added id) shows_mark _ late_seen (omega arith) (omega arith),
  (λ read. let wrong : 60 ≤ 59 = read.least in absurd (omega (arith, wrong))),
  (λ read. let wrong : 121 ≤ 120 = read.most in absurd (omega (arith, wrong))),
  (λ read.
      let found : ◌≡◌ {A = ℕ} shows_mark (0 + 0 + read.found) = ap (λ made. sum_by (λ (m : Made). m.found) made) read.steps.made in
      let is : 119 ≡ read.found % 4294967296 = read.total_is in
      absurd (omega (arith, found, is))),
)

pub returns-clause-reads_nothing : goal.returns-clause-reads_nothing
returns-clause-reads_nothing c id = (
  reads (runs_alone id 0 None [] []) 0 _ nothing_seen (omega arith) (omega arith),
  (λ read. let wrong : 1 ≤ 0 = read.most in absurd (omega (arith, wrong))),
)
