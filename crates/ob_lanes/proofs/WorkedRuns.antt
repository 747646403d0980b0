-- The runs of the worked rows, move by move.
use Rattle.std.proofs.Common.{◌≡◌, ℕ, ◌<◌, ◌≤◌, List, [], ◌∷◌, ◌++◌, None, Some, refl, arith}
use Rattle.ob_types.specs.Marks.{word_half, total_half}
use Rattle.ob_core.specs.World.{CoreState, Grant, one_lane, AreAmong, MakeUp}
use Rattle.ob_core.specs.Step.{IsCoreStep, AreParts, IsDivision, IsMerger, spent_lane}
use Rattle.ob_core.specs.declared.lane.Lane.{Lane}
use Rattle.ob_core.specs.declared.lane_step.LaneStep.{LaneStep}
use Rattle.ob_core.specs.declared.lane_step.LaneStep.TheVariants.{Add, SetBit, Load}
use Rattle.ob_core.specs.Worked.{free_lane}
use Rattle.std.proofs.lemmas.List.Elements.{All-nil}
use Rattle.std.proofs.lemmas.Nat.Bits.{bit_at-zero}
use Rattle.ob_lanes.specs.Run.{BeginsWith, BeginsWithAll, one_step, Leads, IsInRun, Sees}
use Rattle.ob_lanes.specs.declared.facts.Made.{Made}
use Rattle.ob_lanes.specs.declared.facts.Move.{Move}
use Rattle.ob_lanes.specs.declared.facts.Move.TheVariants.{Steps}
use Rattle.ob_lanes.specs.Worked.{grant, half, met, first_run, meeting, with_bits, lone, bit_2_set, bit_2_run}
use Rattle.ob_lanes.specs.Worked.{shows_bit_2, shows_mark, read_run, adds_60, adding_run, joining}
use Rattle.ob_lanes.proofs.Runs.{begins_itself, begins_one, begins_more}

-- what the first of some steps found
abbrev pub first_found : List Made → ℕ
first_found [] = 0
first_found (first ∷ others) = first.found

-- no run is seen that a run would have to begin with
abbrev pub begins_none : (run : List Move) → BeginsWithAll run []
begins_none run = All-nil (BeginsWith run)

-- a lane sees the step that it makes last in a run, if what it finds is the core state that the moves before it lead to
seen_last : {grant : Grant} {had_seen : List (List Move)} {step : LaneStep} {found : ℕ} {name : List ℕ}
    {lane : Lane} {made : List Made} (seat : ℕ) (before : List Move) (at core : CoreState)
    → Leads (one_lane grant) before at → total_half found ≡ at.total → word_half found ≡ at.word
    → BeginsWithAll before had_seen
    → IsInRun grant (Steps seat step found ∷ before) core seat name lane made
    → Sees grant had_seen step found name lane made ((Steps seat step found ∷ before) ∷ [])
seen_last seat before at core leads total word begins in_run = record {
  seat = seat;
  before = before;
  at = at;
  core = core;
  leads = leads;
  total_found = total;
  word_found = word;
  seen_is = refl;
  begins = begins;
  in_run = in_run;
}

-- a core state of one lane
abbrev pub alone : ℕ → ℕ → Lane → CoreState
alone total word lane = record { total = total; word = word; marks = with_bits.marks; lanes = lane ∷ [] }

-- it sets bit 2
sets : Leads (one_lane with_bits) bit_2_run (alone 0 4 (lone 4 None))
sets =
    let step : IsCoreStep (one_lane with_bits) 0 (SetBit 2) (alone 0 4 (lone 4 None)) =
    record { lane = lone 0 None; is_lane = refl; allowed = refl; after = refl } in
    (one_lane with_bits, refl, (step, refl))

pub set_in_run : IsInRun with_bits bit_2_run (alone 0 4 (lone 4 None)) 0 [] (lone 4 None) bit_2_set
set_in_run = record { leads = sets; is_lane = refl; is_named = refl; is_made = refl }

pub set_seen : Sees with_bits [] (SetBit 2) 0 [] (lone 4 None) bit_2_set (bit_2_run ∷ [])
set_seen =
    seen_last 0 [] (one_lane with_bits) (alone 0 4 (lone 4 None)) refl refl refl (begins_none []) set_in_run

-- and reads
pub read_seen : Sees with_bits (bit_2_run ∷ []) Load shows_bit_2 [] (lone 4 None) (bit_2_set ++ one_step Load shows_bit_2)
    (read_run ∷ [])
read_seen =
    let read : IsCoreStep (alone 0 4 (lone 4 None)) 0 Load (alone 0 4 (lone 4 None)) =
    record { lane = lone 4 None; is_lane = refl; allowed = tt; after = refl } in
    let here = alone 0 4 (lone 4 None) in
    seen_last 0 bit_2_run here here sets refl refl (begins_one bit_2_run bit_2_run (begins_itself bit_2_run))
    (record { leads = (here, sets, (read, refl)); is_lane = refl; is_named = refl; is_made = refl })

-- or it reads a total of 0
reads_first : Leads (one_lane with_bits) (Steps 0 Load 0 ∷ []) (one_lane with_bits)
reads_first =
    let read : IsCoreStep (one_lane with_bits) 0 Load (one_lane with_bits) =
    record { lane = lone 0 None; is_lane = refl; allowed = tt; after = refl } in
    (one_lane with_bits, refl, (read, refl))

pub nothing_seen : Sees with_bits [] Load 0 [] (lone 0 None) (one_step Load 0) ((Steps 0 Load 0 ∷ []) ∷ [])
nothing_seen =
    seen_last 0 [] (one_lane with_bits) (one_lane with_bits) refl refl refl (begins_none [])
    (record { leads = reads_first; is_lane = refl; is_named = refl; is_made = refl })

-- and charges 60
pub charge_seen : Sees with_bits [] (Add 60) 0 [] (lone 0 (Some 60)) adds_60 (adding_run ∷ [])
charge_seen =
    let may : 0 < 60 = omega arith in
    let room : 60 ≤ 120 = omega arith in
    let here = one_lane with_bits in
    let step : IsCoreStep (one_lane with_bits) 0 (Add 60) (alone 60 0 (lone 0 (Some 60))) =
    record { lane = lone 0 None; is_lane = refl; allowed = (refl, may, room); after = refl } in
    seen_last 0 (Steps 0 Load 0 ∷ []) here (alone 60 0 (lone 0 (Some 60))) reads_first refl refl
    (begins_none (Steps 0 Load 0 ∷ []))
    (record { leads = (here, reads_first, (step, refl)); is_lane = refl; is_named = refl; is_made = refl })

-- the core states on the way
abbrev pub way : ℕ → Lane → Lane → CoreState
way total a b = record { total = total; word = 0; marks = grant.marks; lanes = a ∷ b ∷ [] }

abbrev pub whole : Lane
whole = free_lane 120 0 0

-- no bit is shared out
no_bits : MakeUp 0 0 0
no_bits index = omega (arith, bit_at-zero index)

none_among : AreAmong 0 0
none_among index = omega arith

halves : AreParts whole (half None) (half None)
halves = record {
  whole_free = record { debt = refl };
  first_free = record { debt = refl };
  second_free = record { debt = refl };
  rooms = refl;
  held = no_bits;
  raised = no_bits;
  first_among = none_among;
  second_among = none_among;
}

-- the lane is divided, and the first half adds 60
first_adds : Leads (one_lane grant) first_run (way 60 (half (Some 60)) (half None))
first_adds =
    let may : 0 < 60 = omega arith in
    let room : 60 ≤ 60 = omega arith in
    let divided : IsDivision (one_lane grant) 0 (half None) (half None) (way 0 (half None) (half None)) =
    record { lane = whole; is_lane = refl; parts = halves; after = refl } in
    let first : IsCoreStep (way 0 (half None) (half None)) 0 (Add 60) (way 60 (half (Some 60)) (half None)) =
    record { lane = half None; is_lane = refl; allowed = (refl, may, room); after = refl } in
    (way 0 (half None) (half None), (one_lane grant, refl, divided), (first, refl))

-- the second half adds 60, which raises
pub meets : Leads (one_lane grant) meeting (met 1)
meets =
    let may : 0 < 60 = omega arith in
    let room : 60 ≤ 60 = omega arith in
    let second : IsCoreStep (way 60 (half (Some 60)) (half None)) 1 (Add 60) (met 1) =
    record { lane = half None; is_lane = refl; allowed = (refl, may, room); after = refl } in
    (way 60 (half (Some 60)) (half None), first_adds, (second, refl))

pub met_in_run : IsInRun grant meeting (met 1) 1 (0 ∷ []) (half (Some 60)) (one_step (Add 60) 60)
met_in_run = record { leads = meets; is_lane = refl; is_named = refl; is_made = refl }

pub met_seen : Sees grant [] (Add 60) 60 (0 ∷ []) (half (Some 60)) (one_step (Add 60) 60) (meeting ∷ [])
met_seen =
    seen_last 1 first_run (way 60 (half (Some 60)) (half None)) (met 1) first_adds refl refl (begins_none first_run)
    met_in_run

-- the first half reads before the second adds, and after it
pub early_seen : Sees grant (first_run ∷ []) Load 60 [] (half (Some 60)) (one_step (Add 60) 0 ++ one_step Load 60)
    ((Steps 0 Load 60 ∷ first_run) ∷ [])
early_seen =
    let here = way 60 (half (Some 60)) (half None) in
    let read : IsCoreStep (way 60 (half (Some 60)) (half None)) 0 Load (way 60 (half (Some 60)) (half None)) =
    record { lane = half (Some 60); is_lane = refl; allowed = tt; after = refl } in
    seen_last 0 first_run here here first_adds refl refl (begins_one first_run first_run (begins_itself first_run))
    (record { leads = (here, first_adds, (read, refl)); is_lane = refl; is_named = refl; is_made = refl })

pub late_seen : Sees grant (first_run ∷ []) Load shows_mark [] (half (Some 60))
    (one_step (Add 60) 0 ++ one_step Load shows_mark) ((Steps 0 Load shows_mark ∷ meeting) ∷ [])
late_seen =
    let read : IsCoreStep (met 1) 0 Load (met 1) =
    record { lane = half (Some 60); is_lane = refl; allowed = tt; after = refl } in
    seen_last 0 meeting (met 1) (met 1) meets refl refl
    (begins_one meeting first_run (begins_more (Steps 1 (Add 60) 60) first_run first_run (begins_itself first_run)))
    (record { leads = (met 1, meets, (read, refl)); is_lane = refl; is_named = refl; is_made = refl })

-- the second half reads, and the first takes it in
pub joins : Leads (one_lane grant) joining (way 0 whole spent_lane)
joins =
    let here = way 0 (half None) (half None) in
    let divided : IsDivision (one_lane grant) 0 (half None) (half None) (way 0 (half None) (half None)) =
    record { lane = whole; is_lane = refl; parts = halves; after = refl } in
    let read : IsCoreStep (way 0 (half None) (half None)) 1 Load (way 0 (half None) (half None)) =
    record { lane = half None; is_lane = refl; allowed = tt; after = refl } in
    let merged : IsMerger (way 0 (half None) (half None)) 0 1 whole (way 0 whole spent_lane) = record {
      lane = half None;
      other_lane = half None;
      is_lane = refl;
      is_other = refl;
      apart = λ same. absurd (omega (arith, same));
      parts = halves;
      after = refl;
    } in
    (here, (here, (one_lane grant, refl, divided), (read, refl)), merged)

pub joined_in_run : IsInRun grant joining (way 0 whole spent_lane) 0 [] whole []
joined_in_run = record { leads = joins; is_lane = refl; is_named = refl; is_made = refl }
