-- Plans that were found to have no fault fail nothing and send nothing, and so do their writers.
use Rattle.std.proofs.Common.{◌≡◌, ℕ, suc, ◌+◌, Bool, true, false, not, List, [], ◌∷◌, length, cond, refl, ap, arith}
use Rattle.std.proofs.Common.{sym, ◌∙◌, subst, zero, ◌<◌, ◌≤◌, map, eqb, get_or, eq-eqb}
use Rattle.std.proofs.lemmas.Bool.Decides.{nat_tests}
use Rattle.std.proofs.lemmas.List.Elements.{All-cons, All-head, All-nil, All-tail}
use Rattle.std.proofs.lemmas.List.Sums.{sum_by-cons}
use Rattle.std.proofs.lemmas.Bool.{eqb-false}
use Rattle.std.specs.Prelude.{count_by, nat_lt, sum_by, if◌then◌else◌, Option, Some, None, IfSome, IsSome, is_ok}
use Rattle.std.specs.Prelude.{slice_get, take}
use Rattle.std.specs.List.{All, position_or_len}
use Rattle.ob_types.specs.declared.command.Command.{Command}
use Rattle.ob_types.specs.declared.command.Command.TheVariants.{Write, Flush, Remove, RemoveWith, RemoveBytes, Progress}
use Rattle.ob_types.specs.declared.command.Command.TheVariants.{Cancel, FailFlushed, Close, UserBit, SetMarks}
use Rattle.ob_types.specs.declared.estimate.Estimate.{Estimate}
use Rattle.ob_seq.specs.Rows.{Row, Settings}
use Rattle.ob_transport.specs.Sent.{nothing, sent_by, Sent, sent_in}
use Rattle.ob_seq.specs.Effect.{rows_after}
use Rattle.ob_history.specs.History.{accepted_commands, records_of}
use Rattle.ob_history.specs.declared.record.Record.{Record}
use Rattle.ob_pool.specs.Drive.{bad_step, is_planned, bad_plan_from, fault_at, first_of, is_bad_count, plans_fault}
use Rattle.ob_pool.specs.Drive.{room_fault}
use Rattle.ob_pool.specs.Report.{is_failing, AreCarriedOut, commands_of}
use Rattle.ob_pool.specs.declared.fault.DriveFault.{DriveFault}
use Rattle.ob_pool.specs.declared.fault.DriveFault.TheVariants.{BadCount}
use Rattle.ob_pool.specs.Inside.{AreChecked, Checked}

-- a command that may stand in a plan fails nothing that is flushed, and sends nothing
pub planned_is_harmless : (command : Command) → is_planned command ≡ true →
    (is_failing command ≡ false) × ((rows : List Row) → sent_by rows command ≡ nothing)
planned_is_harmless (Write message) is = (refl, λ rows. refl)
planned_is_harmless Flush is = (refl, λ rows. refl)
planned_is_harmless Remove is = absurd (cc)
planned_is_harmless (RemoveWith cause) is = absurd (cc)
planned_is_harmless (RemoveBytes n) is = absurd (cc)
planned_is_harmless (Progress n) is = absurd (cc)
planned_is_harmless (Cancel id) is = (refl, λ rows. refl)
planned_is_harmless (FailFlushed cause notify) is = absurd (cc)
planned_is_harmless (Close cause) is = absurd (cc)
planned_is_harmless (UserBit index writable) is = (refl, λ rows. refl)
planned_is_harmless (SetMarks marks) is = (refl, λ rows. refl)

-- a command may stand in a plan
abbrev pub IsPlanned : Command → Type 0
IsPlanned command = is_planned command ≡ true

-- whether a command may not stand in a plan
abbrev is_bad : Command → Bool
is_bad command = not (is_planned command)

one_less : (place count : ℕ) → nat_lt (1 + place) (suc count) ≡ false → nat_lt place count ≡ false
one_less place count past = grind (arith, nat_tests, past)

none_before : (count : ℕ) → nat_lt 0 (suc count) ≡ false → ⊥
none_before count past = grind (arith, nat_tests, past)

all_planned : (plan : List Command) → nat_lt (position_or_len is_bad plan) (length plan) ≡ false → All IsPlanned plan
all_planned [] past = All-nil IsPlanned
all_planned (command ∷ plan) past = by_command (is_planned command) refl past (all_planned plan)
  where
    by_command : (planned : Bool) → is_planned command ≡ planned →
        nat_lt (cond (not (not planned)) (1 + position_or_len is_bad plan) 0) (suc (length plan)) ≡ false →
        (nat_lt (position_or_len is_bad plan) (length plan) ≡ false → All IsPlanned plan) →
        All IsPlanned (command ∷ plan)
    by_command true is behind rest =
        All-cons IsPlanned command plan is (rest (one_less (position_or_len is_bad plan) (length plan) behind))
    by_command false is behind rest = absurd (none_before (length plan) behind)

no_bad_step : (plan : List Command) → bad_step plan ≡ None → All IsPlanned plan
no_bad_step plan none = by_test (nat_lt (position_or_len is_bad plan) (length plan)) refl none
  where
    by_test : (within : Bool) → nat_lt (position_or_len is_bad plan) (length plan) ≡ within →
        cond within (Some (position_or_len is_bad plan)) None ≡ None → All IsPlanned plan
    by_test true is found = absurd (cc)
    by_test false is found = all_planned plan is

no_bad_plan : (writer : ℕ) (plans : List (List Command)) → bad_plan_from writer plans ≡ None →
    All (All IsPlanned) plans
no_bad_plan writer [] none = All-nil (All IsPlanned)
no_bad_plan writer (plan ∷ plans) none = by_step (bad_step plan) refl none (no_bad_plan (suc writer) plans)
  where
    by_step : (step : Option ℕ) → bad_step plan ≡ step →
        fault_at writer step (bad_plan_from (suc writer) plans) ≡ None →
        (bad_plan_from (suc writer) plans ≡ None → All (All IsPlanned) plans) →
        All (All IsPlanned) (plan ∷ plans)
    by_step (Some step) is found rest = absurd (cc)
    by_step None is found rest = All-cons (All IsPlanned) plan plans (no_bad_step plan is) (rest found)

-- all steps of plans that have no fault may stand in a plan
pub steps_are_planned : (estimate : Estimate) (task : ℕ) (plans : List (List Command)) →
    plans_fault estimate task plans ≡ None → All (All IsPlanned) plans
steps_are_planned estimate task plans none = by_count (is_bad_count plans) none
  where
    by_first : (first other : Option DriveFault) → first_of first other ≡ None → first ≡ None
    by_first (Some fault) other found = absurd (cc)
    by_first None other found = refl

    by_count : (bad : Bool) →
        (if bad then Some BadCount else first_of (bad_plan_from 0 plans) (room_fault estimate task plans)) ≡ None →
        All (All IsPlanned) plans
    by_count true found = absurd (cc)
    by_count false found =
        no_bad_plan 0 plans (by_first (bad_plan_from 0 plans) (room_fault estimate task plans) found)

fails_none : (plan : List Command) → All IsPlanned plan → count_by is_failing plan ≡ 0
fails_none [] all = refl
fails_none (command ∷ plan) all =
    omega (
      arith,
      sum_by-cons (λ command. cond (is_failing command) 1 0) command plan,
      ap (λ fails. cond {A = ℕ} fails 1 0) (planned_is_harmless command (All-head IsPlanned command plan all)).0,
      fails_none plan (All-tail IsPlanned command plan all),
    )

-- so none of them fails what is flushed
pub no_failing_step : (plans : List (List Command)) → All (All IsPlanned) plans →
    sum_by (count_by is_failing) plans ≡ 0
no_failing_step [] all = refl
no_failing_step (plan ∷ plans) all =
    omega (
      arith,
      sum_by-cons (count_by is_failing) plan plans,
      fails_none plan (All-head (All IsPlanned) plan plans all),
      no_failing_step plans (All-tail (All IsPlanned) plan plans all),
    )

-- plans that were checked for an estimate and what a hand-off adds have no fault under these
pub no_fault : (checked : Checked) (estimate : Estimate) (task : ℕ) (plans : List (List Command)) →
    checked.estimate ≡ estimate → checked.task ≡ task → checked.plans ≡ plans → AreChecked checked →
    IsSome (plans_fault estimate task plans) → ⊥
no_fault checked estimate task plans same_estimate same_task same_plans are some =
    let none : plans_fault estimate task plans ≡ None =
    sym (ap (λ (its : Estimate). plans_fault its checked.task checked.plans) same_estimate
    ∙ ap (λ its. plans_fault estimate its checked.plans) same_task
    ∙ ap (plans_fault estimate task) same_plans) ∙ are.faultless in
    let found : false ≡ true = subst IsSome none some in
    absurd (cc)

-- so what holds of each fault of these holds
pub whatever_fault : (checked : Checked) (estimate : Estimate) (task : ℕ) (plans : List (List Command))
    (Holds : DriveFault → Type 0) →
    checked.estimate ≡ estimate → checked.task ≡ task → checked.plans ≡ plans → AreChecked checked →
    IfSome (plans_fault estimate task plans) Holds
whatever_fault checked estimate task plans Holds same_estimate same_task same_plans are =
    none_holds (plans_fault estimate task plans)
    (no_fault checked estimate task plans same_estimate same_task same_plans are)
  where
    none_holds : (found : Option DriveFault) → (IsSome found → ⊥) → IfSome found Holds
    none_holds None none = tt
    none_holds (Some fault) none = absurd (none refl)

abbrev command_of : Record → Command
command_of one = one.command

-- a record is planned if its caller is one of the writers
abbrev IfWriter : ℕ → Record → Type 0
IfWriter writers one = one.caller < writers → IsPlanned one.command

-- if all that each writer recorded is planned, so is each of their records
planned_by : (writers : ℕ) (records : List Record) →
    ((writer : ℕ) → writer < writers → All IsPlanned (commands_of writer records)) → All (IfWriter writers) records
planned_by writers [] planned = All-nil (IfWriter writers)
planned_by writers (one ∷ records) planned =
    All-cons (IfWriter writers) one records (λ below. first (eqb one.caller one.caller)
    (eq-eqb one.caller one.caller refl) (planned one.caller below))
    (planned_by writers records (λ writer below. others writer (eqb one.caller writer) (planned writer below)))
  where
    first : (is : Bool) → is ≡ true →
        All IsPlanned (map command_of (cond is (one ∷ records_of one.caller records) (records_of one.caller records))) →
        IsPlanned one.command
    first true is all = All-head IsPlanned one.command (commands_of one.caller records) all
    first false is all = absurd (cc)

    others : (writer : ℕ) (is : Bool) →
        All IsPlanned (map command_of (cond is (one ∷ records_of writer records) (records_of writer records))) →
        All IsPlanned (commands_of writer records)
    others writer true all = All-tail IsPlanned one.command (commands_of writer records) all
    others writer false all = all

plan_at : (plans : List (List Command)) (writer : ℕ) → writer < length plans →
    slice_get plans writer ≡ Some (get_or plans writer [])
plan_at [] writer within = absurd (omega (arith, within))
plan_at (plan ∷ plans) zero within = refl
plan_at (plan ∷ plans) (suc writer) within = plan_at plans writer (omega (arith, within))

-- if plans of steps that may stand there are carried out, each record that is not of the caller behind the writers
-- sends nothing
pub others_send_nothing : (settings : Settings) (records : List Record) (plans : List (List Command)) →
    AreCarriedOut records plans → All (All IsPlanned) plans → All (λ one. one.caller ≤ length plans) records →
    All (λ one. eqb one.caller (length plans) ≡ false → sent_in settings records one ≡ nothing) records
others_send_nothing settings records plans carried planned callers = λ k d within not_last.
    let one = get_or records k d in
    let caller = callers k d within in
    let other = eqb-false one.caller (length plans) not_last in
    let its = all k d within (omega (arith, caller, other)) in
    let rows = rows_after settings.estimate (accepted_commands (take one.place records)) in
    by_reply (is_ok one.reply) (sent_by rows one.command) ((planned_is_harmless one.command its).1 rows)
  where
    all : All (IfWriter (length plans)) records
    all = planned_by (length plans) records (λ writer below. subst (All IsPlanned)
        (sym (carried writer (get_or plans writer []) (plan_at plans writer below))) (planned writer [] below))

    by_reply : (ok : Bool) (sent : Sent) → sent ≡ nothing → cond ok sent nothing ≡ nothing
    by_reply true sent is = is
    by_reply false sent is = refl
