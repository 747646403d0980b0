use Rattle.std.proofs.Common.{◌≡◌, ◌<◌, ◌++◌, ℕ, List, [], ◌∷◌, Option, None, Some}
use Rattle.std.proofs.Common.{refl, sym, ap, ◌∙◌, arith}
use Rattle.std.proofs.lemmas.List.Elements.{All-nil, All-cons}
use Rattle.ob_types.specs.declared.reply.Change.{Change}
use Rattle.ob_types.specs.declared.reply.Change.TheVariants.{Unwritable}
use Rattle.ob_core.specs.Step.{change_found}
use Rattle.ob_core.specs.declared.lane_step.LaneStep.{LaneStep}
use Rattle.ob_core.specs.declared.lane_step.LaneStep.TheVariants.{Add, Load}
use Rattle.ob_lanes.specs.Calls.{AreReads, ChangesDebt, IsOneStep, debt_of, are_held}
use Rattle.ob_lanes.specs.Run.{one_step, RunningLane}
use Rattle.ob_lanes.specs.Worked.{runs_alone, runs_beside}
use Rattle.ob_lanes.specs.declared.facts.Made.{Made}
use Rattle.ob_lanes.specs.declared.facts.Move.{Move}
use Rattle.ob_lanes.proofs.WorkedRuns.{charge_seen, met_seen}
use Rattle.ob_lanes.proofs.worked.worked_calls.Goals as goal

pub returns-clause-splits : goal.returns-clause-splits
unfolding are_held
returns-clause-splits c = (refl, refl, refl, refl, refl, refl)

-- a list of reads, a read first
one_read : AreReads (one_step Load 0)
one_read = All-cons (λ (m : Made). m.step ≡ Load) (record { step = Load; found = 0 }) [] refl
    (All-nil (λ (m : Made). m.step ≡ Load))

-- what the last of some steps found
abbrev last_found : List Made → ℕ
last_found [] = 0
last_found (made ∷ []) = made.found
last_found (made ∷ other ∷ more) = last_found (other ∷ more)

last-one : (reads : List Made) (step : LaneStep) (found : ℕ)
    → last_found (reads ++ one_step step found) ≡ found
last-one [] step found = refl
last-one (read ∷ []) step found = refl
last-one (read ∷ other ∷ more) step found = last-one (other ∷ more) step found

-- the change is that of what the last step found
turn_of_last : (old new : RunningLane) (change : Option Change) → IsOneStep (Add 60) old new change
    → change ≡ change_found (Add 60) old.words.grant.marks (last_found new.made)
turn_of_last old new change one =
    let last = ap last_found one.made ∙ last-one (old.made ++ one.reads) (Add 60) one.found in
    one.turn ∙ ap (change_found (Add 60) old.words.grant.marks) (sym last)

-- a lane that is as it was but for a debt of 60 and the step of that, and has seen these runs, was charged
charged : (old : RunningLane) (made : List Made) (seen : List (List Move)) (change : Option Change)
    → IsOneStep (Add 60) old (record old { lane = record old.lane { debt = Some 60 }; made = made; seen = seen }) change
    → ChangesDebt (debt_of 60) 60 (Add 60) old
    (record old { lane = record old.lane { debt = Some 60 }; made = made; seen = seen }) change
charged old made seen change one = record {
  words = refl;
  same = record { name = refl; splits = refl; taken = refl };
  owes = refl;
  made = λ _. one;
  nothing = λ none. absurd (omega (arith, none));
}

pub returns-clause-owes : goal.returns-clause-owes
returns-clause-owes c id =
    let some : 0 < 60 = omega arith in (
      charged (runs_alone id 0 None [] []) _ _ _
          (record {
            reads = one_step Load 0;
            are_reads = one_read;
            found = 0;
            made = refl;
            turn = refl;
            sees = charge_seen;
          }),
      (λ call. let wrong : None ≡ Some 60 = ap (λ l. l.debt) call.owes in absurd (cc)),
      (λ call.
          let made = call.made some in
          no_less made.reads made.found made.made),
      (λ call. let turn : Some Unwritable ≡ None = turn_of_last _ _ _ (call.made some) in absurd (cc)),
      (λ call. let wrong : ◌≡◌ {A = ℕ} 4 0 = ap (λ l. l.raised) call.owes in absurd (omega (arith, wrong))),
    )
  where
    no_less : (reads : List Made) (found : ℕ) → [] ≡ reads ++ one_step (Add 60) found → ⊥
    no_less [] found same = absurd (cc)
    no_less (read ∷ reads) found same = absurd (cc)

pub returns-clause-raises : goal.returns-clause-raises
returns-clause-raises c id =
    let some : 0 < 60 = omega arith in (
      charged (runs_beside (0 ∷ []) 0 id None [] []) _ _ _
          (record {
            reads = [];
            are_reads = All-nil (λ (m : Made). m.step ≡ Load);
            found = 60;
            made = refl;
            turn = refl;
            sees = met_seen;
          }),
      (λ call. let turn : None ≡ Some Unwritable = turn_of_last _ _ _ (call.made some) in absurd (cc)),
    )
