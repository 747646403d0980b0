-- A finished history in which each caller has handed in what it has done.
use Rattle.std.proofs.Common.{◌≡◌, ℕ, zero, suc, ◌+◌, ◌<◌, ◌≤◌, Bool, true, false, List, [], ◌∷◌, ◌++◌, length, map}
use Rattle.std.proofs.Common.{cond, eqb, ltb, refl, sym, ap, ap₂, ◌∙◌, subst, arith}
use Rattle.std.proofs.Math.Seq.{take-append_seam}
use Rattle.std.proofs.lemmas.Bool.Decides.{nat_tests}
use Rattle.std.proofs.lemmas.List.{length-map}
use Rattle.std.proofs.lemmas.List.Elements.{All-cons, All-contains, All-head, All-map, All-nil, All-tail, All-take}
use Rattle.std.proofs.lemmas.List.Elements.{Contains-push}
use Rattle.std.proofs.lemmas.List.Sums.{count_by-le-length, sum_by-cons, sum_by_push}
use Rattle.std.specs.Prelude.{◌&&◌, nat_lt, count_by, slice_get, slice_index_or, sum_by, Some}
use Rattle.std.specs.List.{All, range_with_len}
use Rattle.ob_types.specs.declared.command.Command.{Command}
use Rattle.ob_history.specs.History.{records_of, record_of}
use Rattle.ob_history.specs.declared.receipt.Receipt.{Receipt}
use Rattle.ob_history.specs.declared.record.Record.{Record}
use Rattle.ob_shared.specs.Calls.{HandsInAll, Handed, made_by}
use Rattle.ob_pool.specs.Inside.{HaveHandedIn}
use Rattle.ob_pool.specs.Report.{AreCarriedOut, commands_of, failings_of, is_failing}
use Rattle.ob_pool.specs.Threads.{failings_in, Work, commands_in, work_from, done_by}

-- what a record asked
abbrev command_of : Record → Command
command_of one = one.command

commands_of_records : (receipts : List Receipt) → map command_of (map record_of receipts) ≡ commands_in receipts
commands_of_records [] = refl
commands_of_records (receipt ∷ receipts) = ap (λ rest. receipt.command ∷ rest) (commands_of_records receipts)

module _ (records : List Record) where
  -- a caller's records carry the commands of its work
  abbrev pub Stands : Work → Type 0
  Stands work = commands_of work.caller records ≡ work.commands

  -- who hands in all its records has a work that stands
  pub work_stands : (one : Handed) → HandsInAll records one → Stands (done_by one)
  work_stands one all = ap (map command_of) (sym all) ∙ commands_of_records one.receipts

  carried_from : (caller : ℕ) (plans : List (List Command)) → All Stands (work_from caller plans) →
      (writer : ℕ) (plan : List Command) → slice_get plans writer ≡ Some plan →
      commands_of (caller + writer) records ≡ plan
  carried_from caller [] all writer plan is = absurd (cc)
  carried_from caller (first ∷ plans) all zero plan is =
      let here : caller + 0 ≡ caller = omega arith in
      let same : first ≡ plan = cc in
      ap (λ k. commands_of k records) here ∙ All-head Stands _ (work_from (suc caller) plans) all ∙ same
  carried_from caller (first ∷ plans) all (suc writer) plan is =
      let there : caller + suc writer ≡ suc caller + writer = omega arith in
      ap (λ k. commands_of k records) there
      ∙ carried_from (suc caller) plans (All-tail Stands _ (work_from (suc caller) plans) all) writer plan is

  -- plans whose work stand are carried out
  pub plans_carried : (plans : List (List Command)) → All Stands (work_from 0 plans) → AreCarriedOut records plans
  plans_carried plans all writer plan is =
      let same : writer ≡ 0 + writer = omega arith in
      ap (λ k. commands_of k records) same ∙ carried_from 0 plans all writer plan is

-- how many commands of a kind are of callers below this one
abbrev below : (Command → Bool) → ℕ → List Record → ℕ
below kind caller records = count_by (λ one. kind one.command && nat_lt one.caller caller) records

one_caller : (is : Bool) (a n : ℕ) →
    cond {A = ℕ} (is && ltb a (suc n)) 1 0 ≡ cond (is && ltb a n) 1 0 + cond (eqb a n && is) 1 0
one_caller true a n = grind (arith, nat_tests)
one_caller false a n = grind (arith, nat_tests)

below_next : (kind : Command → Bool) (caller : ℕ) (records : List Record) →
    below kind (suc caller) records ≡ below kind caller records + count_by kind (commands_of caller records)
below_next kind caller [] = refl
below_next kind caller (one ∷ records) =
    omega (
      arith,
      sum_by-cons (λ (one : Record). cond (kind one.command && nat_lt one.caller (suc caller)) 1 0) one records,
      sum_by-cons (λ (one : Record). cond (kind one.command && nat_lt one.caller caller) 1 0) one records,
      below_next kind caller records,
      one_caller (kind one.command) one.caller caller,
      by_caller (eqb one.caller caller),
    )
  where
    by_caller : (its : Bool) →
        count_by kind (map command_of (cond its (one ∷ records_of caller records) (records_of caller records)))
        ≡ cond (its && kind one.command) 1 0 + count_by kind (commands_of caller records)
    by_caller true = sum_by-cons (λ command. cond (kind command) 1 0) one.command (commands_of caller records)
    by_caller false = omega arith

none_below : (kind : Command → Bool) (records : List Record) → below kind 0 records ≡ 0
none_below kind [] = refl
none_below kind (one ∷ records) =
    omega (
      arith,
      sum_by-cons (λ (one : Record). cond (kind one.command && nat_lt one.caller 0) 1 0) one records,
      none_below kind records,
      no_caller (kind one.command),
    )
  where
    no_caller : (is : Bool) → cond {A = ℕ} (is && ltb one.caller 0) 1 0 ≡ 0
    no_caller true = grind (arith, nat_tests)
    no_caller false = refl

-- the commands of a kind among those of callers from one on, if their work stand
below_all : (kind : Command → Bool) (records : List Record) (caller : ℕ) (plans : List (List Command)) →
    All (Stands records) (work_from caller plans) →
    below kind (caller + length plans) records ≡ below kind caller records + sum_by (count_by kind) plans
below_all kind records caller [] all =
    let here : caller + 0 ≡ caller = omega arith in omega (arith, ap (λ k. below kind k records) here)
below_all kind records caller (plan ∷ plans) all =
    let rest = below_all kind records (suc caller) plans
    (All-tail (Stands records) _ (work_from (suc caller) plans) all) in
    let first : commands_of caller records ≡ plan = All-head (Stands records) _ (work_from (suc caller) plans) all in
    let there : caller + suc (length plans) ≡ suc caller + length plans = omega arith in
    omega (
      arith,
      ap (λ k. below kind k records) there,
      rest,
      below_next kind caller records,
      ap (count_by kind) first,
      sum_by-cons (count_by kind) plan plans,
    )

-- the commands of a kind among those of all writers
below_writers : (kind : Command → Bool) (records : List Record) (plans : List (List Command)) →
    All (Stands records) (work_from 0 plans) → below kind (length plans) records ≡ sum_by (count_by kind) plans
below_writers kind records plans all =
    let here : length plans ≡ 0 + length plans = omega arith in
    omega (arith, ap (λ k. below kind k records) here, below_all kind records 0 plans all, none_below kind records)

-- any command
abbrev any_kind : Command → Bool
any_kind command = true

all_counted : {X : Type 0} (xs : List X) → count_by (λ x. true) xs ≡ length xs
all_counted [] = refl
all_counted (x ∷ xs) = omega (arith, sum_by-cons (λ x. 1) x xs, all_counted xs)

-- if as many records as there are have callers below one, all of them do
all_below : (caller : ℕ) (records : List Record) → length records ≤ below any_kind caller records →
    All (λ one. one.caller < caller) records
all_below caller [] full = All-nil (λ (one : Record). one.caller < caller)
all_below caller (one ∷ records) full =
    All-cons (λ (one : Record). one.caller < caller) one records (its.0) (all_below caller records its.1)
  where
    most : below any_kind caller records ≤ length records
    most = count_by-le-length (λ (one : Record). any_kind one.command && nat_lt one.caller caller) records

    here : below any_kind caller (one ∷ records)
        ≡ cond (any_kind one.command && nat_lt one.caller caller) 1 0 + below any_kind caller records
    here = sum_by-cons (λ (one : Record). cond (any_kind one.command && nat_lt one.caller caller) 1 0) one records

    by_test : (a n few all : ℕ) → suc all ≤ cond {A = ℕ} (ltb a n) 1 0 + few → few ≤ all → (a < n) × (all ≤ few)
    by_test a n few all whole least = grind (arith, nat_tests)

    its : (one.caller < caller) × (length records ≤ below any_kind caller records)
    its = by_test one.caller caller (below any_kind caller records) (length records) (omega (arith, full, here)) most

-- and so do all of a kind
below_full : (kind : Command → Bool) (caller : ℕ) (records : List Record) → All (λ one. one.caller < caller) records →
    below kind caller records ≡ count_by (λ one. kind one.command) records
below_full kind caller [] all = refl
below_full kind caller (one ∷ records) all =
    omega (
      arith,
      sum_by-cons (λ (one : Record). cond (kind one.command && nat_lt one.caller caller) 1 0) one records,
      sum_by-cons (λ (one : Record). cond (kind one.command) 1 0) one records,
      by_test (kind one.command) one.caller caller (All-head (λ (one : Record). one.caller < caller) one records all),
      below_full kind caller records (All-tail (λ (one : Record). one.caller < caller) one records all),
    )
  where
    by_test : (is : Bool) (a n : ℕ) → a < n → cond {A = ℕ} (is && ltb a n) 1 0 ≡ cond is 1 0
    by_test true a n first = grind (arith, nat_tests, first)
    by_test false a n first = refl

lengths : (plans : List (List Command)) → sum_by (count_by any_kind) plans ≡ sum_by length plans
lengths [] = refl
lengths (plan ∷ plans) =
    omega (
      arith,
      sum_by-cons (count_by any_kind) plan plans,
      sum_by-cons length plan plans,
      all_counted plan,
      lengths plans,
    )

-- all records are of writers and of the caller behind them, if these made as many as there are
callers_within : (records : List Record) (plans : List (List Command)) (mine : List Command) →
    All (Stands records) (work_from 0 plans) → commands_of (length plans) records ≡ mine →
    sum_by length plans + length mine ≡ length records →
    All (λ one. one.caller < suc (length plans)) records
callers_within records plans mine all last counted =
    all_below (suc (length plans)) records
    (omega (
      arith,
      counted,
      below_next any_kind (length plans) records,
      below_writers any_kind records plans all,
      ap (count_by any_kind) last,
      all_counted mine,
      lengths plans,
    ))

-- the records that fail what is flushed are then the last caller's
failings_are_last : (records : List Record) (plans : List (List Command)) (mine : List Command) →
    All (Stands records) (work_from 0 plans) → commands_of (length plans) records ≡ mine →
    sum_by length plans + length mine ≡ length records →
    sum_by (count_by is_failing) plans ≡ 0 →
    failings_of records ≡ count_by is_failing mine
failings_are_last records plans mine all last counted none =
    omega (
      arith,
      below_full is_failing (suc (length plans)) records (callers_within records plans mine all last counted),
      below_next is_failing (length plans) records,
      below_writers is_failing records plans all,
      ap (count_by is_failing) last,
      none,
    )

-- callers that have done what was asked have work that stand
pub all_work_stands : (records : List Record) (dones : List Handed) (plans : List (List Command)) →
    map done_by dones ≡ work_from 0 plans → All (HandsInAll records) dones → All (Stands records) (work_from 0 plans)
all_work_stands records dones plans same all =
    subst (All (Stands records)) same
    (All-map (Stands records) done_by dones
    (λ k d within. work_stands records (slice_index_or dones k d) (all k d within)))

pub All-front : {X : Type 0} (P : X → Type 0) (xs ys : List X) → All P (xs ++ ys) → All P xs
All-front P xs ys all = subst (All P) (take-append_seam xs ys) (All-take P (length xs) (xs ++ ys) all)

-- how many records work have made together
abbrev made_in : List Work → ℕ
made_in works = sum_by (λ work. work.made) works

-- they have made as many records as their plans have steps
pub as_many_made : (dones : List Handed) (plans : List (List Command)) → map done_by dones ≡ work_from 0 plans →
    made_by dones ≡ sum_by length plans
as_many_made dones plans same = of_dones dones ∙ ap made_in same ∙ of_plans 0 plans
  where
    of_dones : (dones : List Handed) → made_by dones ≡ made_in (map done_by dones)
    of_dones [] = refl
    of_dones (one ∷ dones) =
        omega (
          arith,
          sum_by-cons (λ (one : Handed). one.maker.made) one dones,
          sum_by-cons (λ (work : Work). work.made) (done_by one) (map done_by dones),
          of_dones dones,
        )

    of_plans : (caller : ℕ) (plans : List (List Command)) → made_in (work_from caller plans) ≡ sum_by length plans
    of_plans caller [] = refl
    of_plans caller (plan ∷ plans) =
        omega (
          arith,
          sum_by-cons (λ (work : Work). work.made) (record { caller = caller; made = length plan; commands = plan })
              (work_from (suc caller) plans),
          sum_by-cons length plan plans,
          of_plans (suc caller) plans,
        )

-- writers and the caller behind them have handed in what they were asked, with the receipts of all records
pub record HaveEnded (records : List Record) (dones : List Handed) (done : Handed)
    (plans : List (List Command)) : Type 0 where
  pub same : map done_by dones ≡ work_from 0 plans
  pub handed : HaveHandedIn records (dones ++ done ∷ [])
  pub last : done.maker.caller ≡ length plans

module _ (records : List Record) (dones : List Handed) (done : Handed) (plans : List (List Command))
    (ended : HaveEnded records dones done plans) where
  stand : All (Stands records) (work_from 0 plans)
  stand = all_work_stands records dones plans ended.same (All-front (HandsInAll records) dones (done ∷ []) ended.handed.own)

  -- the writers have carried their plans out
  pub all_carried : AreCarriedOut records plans
  all_carried = plans_carried records plans stand

  its : commands_of (length plans) records ≡ commands_in done.receipts
  its =
      ap (λ caller. commands_of caller records) (sym ended.last)
      ∙ work_stands records done
      (All-contains (HandsInAll records) (dones ++ done ∷ []) done ended.handed.own (Contains-push dones done))

  as_many : sum_by length plans + length (commands_in done.receipts) ≡ length records
  as_many =
      omega (
        arith,
        ended.handed.counted,
        All-contains (λ (one : Handed). one.maker.made ≡ length one.receipts) (dones ++ done ∷ []) done
            ended.handed.made (Contains-push dones done),
        as_many_made dones plans ended.same,
        sum_by_push (λ (one : Handed). one.maker.made) dones done,
        length-map done.receipts (λ (receipt : Receipt). receipt.command),
      )

  -- each record is then of one of them
  pub callers_told : All (λ one. one.caller ≤ length plans) records
  callers_told = λ k d within.
      let below = callers_within records plans (commands_in done.receipts) stand its as_many k d within in
      omega (arith, below)

  -- and what the history fails is what the last one failed
  pub failings_told : sum_by (count_by is_failing) plans ≡ 0 → failings_of records ≡ failings_in done.receipts
  failings_told none = failings_are_last records plans (commands_in done.receipts) stand its as_many none

-- callers that have done the work of plans, one by one, are numbered
pub numbered_from : (dones : List Handed) (caller : ℕ) (plans : List (List Command)) →
    map done_by dones ≡ work_from caller plans →
    (map (λ (one : Handed). one.maker.caller) dones ≡ range_with_len caller (length dones)) × (length dones ≡ length plans)
numbered_from [] caller [] same = (refl, refl)
numbered_from [] caller (plan ∷ plans) same = absurd (cc)
numbered_from (one ∷ dones) caller [] same = absurd (cc)
numbered_from (one ∷ dones) caller (plan ∷ plans) same =
    let others : map done_by dones ≡ work_from (suc caller) plans = cc in
    let its : done_by one ≡ record { caller = caller; made = length plan; commands = plan } = cc in
    let first : one.maker.caller ≡ caller = ap (λ (work : Work). work.caller) its in
    let next : suc caller ≡ caller + 1 = omega arith in
    let rest = numbered_from dones (suc caller) plans others in
    (ap₂ ◌∷◌ first (rest.0 ∙ ap (λ k. range_with_len k (length dones)) next), omega (arith, rest.1))
