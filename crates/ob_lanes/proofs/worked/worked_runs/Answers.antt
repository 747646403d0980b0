use Rattle.std.proofs.Common.{◌≡◌, None, List, [], ◌∷◌, ◌++◌, length, length-append, refl, ap, arith}
use Rattle.ob_lanes.specs.Worked.{grant, half, met, meeting}
use Rattle.ob_lanes.specs.declared.facts.Move.{Move}
use Rattle.ob_lanes.specs.declared.facts.Move.TheVariants.{Steps, Divides}
use Rattle.ob_core.specs.declared.lane_step.LaneStep.TheVariants.{Add}
use Rattle.ob_lanes.proofs.KeptAccounts.{accounts_after_run}
use Rattle.ob_lanes.proofs.Runs.{begins_itself}
use Rattle.ob_lanes.proofs.WorkedRuns.{meets}
use Rattle.ob_lanes.proofs.worked.worked_runs.Goals as goal

pub returns-clause-meets : goal.returns-clause-meets
returns-clause-meets c = meets

pub returns-clause-raised_nothing : goal.returns-clause-raised_nothing
returns-clause-raised_nothing c leads =
    let accounts = accounts_after_run grant meeting (met 0) refl leads in
    absurd (cc (accounts.mark.above (omega arith) (omega arith)))

-- in the run of both the division comes first
wrong_order : (later : List Move) → meeting ≡ later ++ (Divides 0 (half None) (half None) (0 ∷ []) ∷ Steps 0 (Add 60) 0 ∷ []) → ⊥
wrong_order [] same = absurd (cc)
wrong_order (x ∷ []) same = absurd (cc)
wrong_order (x ∷ y ∷ rest) same =
    let longer : 3 ≡ length (x ∷ y ∷ (rest ++ (Divides 0 (half None) (half None) (0 ∷ []) ∷ Steps 0 (Add 60) 0 ∷ []))) =
    ap length same in
    absurd (omega (
      arith,
      longer,
      length-append rest (Divides 0 (half None) (half None) (0 ∷ []) ∷ Steps 0 (Add 60) 0 ∷ []),
    ))

pub returns-clause-begins : goal.returns-clause-begins
returns-clause-begins c = (
  record { later = _ ∷ []; run_is = refl },
  begins_itself meeting,
  (λ begins.
      let longer : 2 ≡ length (begins.later ++ meeting) = ap length begins.run_is in
      absurd (omega (arith, longer, length-append begins.later meeting))),
  (λ begins. wrong_order begins.later begins.run_is),
)

pub returns-clause-one_change : goal.returns-clause-one_change
returns-clause-one_change c = (
  refl,
  refl,
  (refl, (refl, tt)),
  (λ turns. let wrong = turns.0 in absurd (cc)),
  (λ turns. let wrong = turns.0 in absurd (cc)),
)
