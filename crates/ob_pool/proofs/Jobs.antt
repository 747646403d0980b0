-- The jobs of writers, in lists: the shares of a drive, halves of a list and its one job, the steps of a writer, and
-- which writer a fault names.
use Rattle.std.proofs.Common.{◌≡◌, ℕ, suc, ◌+◌, List, [], ◌∷◌, ◌++◌, length, map, sym, ap, ap₂, ◌∙◌, subst}
use Rattle.std.proofs.Common.{append_assoc, arith, ◌/◌, ◌<◌, ◌≤◌, false, take, drop, refl, max}
use Rattle.std.proofs.lemmas.List.{map-append, same_from_push, take-append-drop, length_push}
use Rattle.std.proofs.lemmas.List.Elements.{All-append, All-cons, All-nil, All-drop, All-take, All-contains}
use Rattle.std.proofs.lemmas.List.Elements.{Contains-push}
use Rattle.std.proofs.lemmas.List.FromFn.{map-range_with_len_more}
use Rattle.std.proofs.lemmas.List.Sums.{sum_by-cons, sum_by_push, sum_by-take-drop}
use Rattle.std.proofs.lemmas.Bool.Decides.{nat_tests}
use Rattle.std.specs.List.{All, range_with_len}
use Rattle.std.specs.Prelude.{nat_lt, IfOk, IsOkAnd, None, Result, Ok, Err, Vec, vec_len, IfErr, IsErrOf}
use Rattle.ob_types.specs.declared.command.Command.{Command}
use Rattle.ob_types.specs.declared.estimate.Estimate.{Estimate}
use Rattle.ob_shared.specs.Calls.{Maker, new_maker, ShareValue, new_share, new_shares, Handed}
use Rattle.ob_core.specs.declared.lane.Lane.{Lane}
use Rattle.ob_lanes.specs.Calls.{split_fault}
use Rattle.ob_lanes.proofs.HeldBits.{none_held}
use Rattle.ob_history.specs.declared.receipt.Receipt.{Receipt}
use Rattle.ob_types.specs.declared.refusal.Refusal.{Refusal}
use Rattle.ob_types.specs.declared.refusal.Refusal.TheVariants.{HistoryFull}
use Rattle.ob_pool.specs.Drive.{room_of, rooms_of, charge_for, ComesOfWork, NamesOneOf, number_of}
use Rattle.ob_pool.specs.Threads.{Work, Job, IsNumbered, IsRoomy, asked, work_from, room_for, AreDone, done_by}
use Rattle.ob_pool.specs.Threads.{commands_in}
use Rattle.ob_pool.specs.declared.fault.DriveFault.{DriveFault}
use Rattle.ob_pool.specs.declared.fault.DriveFault.TheVariants.{BadCount, BadPlan, TooMuchRoom, NoMemory, Stuck}
use Rattle.ob_pool.specs.declared.fault.DriveFault.TheVariants.{Refused, Transport, Finish}

-- new shares without the last are those of the writers, and the last is the next caller's
pub last_share : (writers callers : ℕ) (shares first : List ShareValue) (last : ShareValue) → shares ≡ new_shares callers →
    callers ≡ writers + 1 → shares ≡ first ++ last ∷ [] → (first ≡ new_shares writers) × (last ≡ new_share writers)
last_share writers callers shares first last new one_more split =
    let same : 0 + writers ≡ writers = omega arith in
    same_from_push first (new_shares writers) last (new_share writers)
    (sym split ∙ new ∙ ap new_shares one_more ∙ map-range_with_len_more new_share 0 writers writers same)

-- the next share is the next caller's, and those behind it are of the callers behind that
pub next_share : (next after : ℕ) (shares rest : List ShareValue) (share : ShareValue) (plan : List Command)
    (plans more : List (List Command)) →
    shares ≡ map new_share (range_with_len next (length plans)) → plans ≡ plan ∷ more → shares ≡ share ∷ rest →
    after ≡ next + 1 →
    (share ≡ new_share next) × (rest ≡ map new_share (range_with_len after (length more)))
next_share next after shares rest share plan plans more are begin split one_more =
    let whole = sym split ∙ are ∙ ap (λ others. map new_share (range_with_len next (length others))) begin in (
      first_of share (new_share next) rest _ whole,
      rest_of share (new_share next) rest _ whole
          ∙ ap (λ caller. map new_share (range_with_len caller (length more))) (sym one_more),
    )
  where
    first_of : (x y : ShareValue) (xs ys : List ShareValue) → x ∷ xs ≡ y ∷ ys → x ≡ y
    first_of x y xs ys same = cc

    rest_of : (x y : ShareValue) (xs ys : List ShareValue) → x ∷ xs ≡ y ∷ ys → xs ≡ ys
    rest_of x y xs ys same = cc

-- a caller, how many records it has made, and commands
abbrev work : ℕ → ℕ → List Command → Work
work caller made commands = record { caller = caller; made = made; commands = commands }

-- what writers and the plans behind them are asked stays the same with one more writer
pub asked_more : (next after : ℕ) (jobs all : List Job) (job : Job) (plans more : List (List Command))
    (whole : List Work) →
    map asked jobs ++ work_from next plans ≡ whole → plans ≡ job.plan ∷ more → job.maker ≡ new_maker next →
    after ≡ next + 1 → all ≡ jobs ++ job ∷ [] → map asked all ++ work_from after more ≡ whole
asked_more next after jobs all job plans more whole before begin share one_more pushed =
    let later : after ≡ suc next = omega (arith, one_more) in
    let made : 0 + length job.plan ≡ length job.plan = omega arith in
    let its = ap (λ (maker : Maker). work maker.caller (maker.made + length job.plan) job.plan) share
    ∙ ap (λ count. work next count job.plan) made in
    ap (λ es. map asked es ++ work_from after more) pushed
    ∙ ap (λ works. works ++ work_from after more) (map-append asked jobs (job ∷ []))
    ∙ append_assoc (map asked jobs) (asked job ∷ []) (work_from after more)
    ∙ ap₂ (λ one others. map asked jobs ++ one ∷ others) its (ap (λ caller. work_from caller more) later)
    ∙ ap (λ others. map asked jobs ++ work_from next others) (sym begin) ∙ before

-- the room of writers and of the plans behind them stays the same with one more writer
pub rooms_more : (estimate : Estimate) (task : ℕ) (jobs all : List Job) (job : Job)
    (plans more : List (List Command)) (whole : ℕ) →
    room_for jobs + rooms_of estimate task plans ≡ whole → plans ≡ job.plan ∷ more →
    job.room ≡ room_of estimate task job.plan → all ≡ jobs ++ job ∷ [] →
    room_for all + rooms_of estimate task more ≡ whole
rooms_more estimate task jobs all job plans more whole before begin room pushed =
    omega (
      arith,
      before,
      room,
      ap room_for pushed,
      sum_by_push (λ (job : Job). job.room) jobs job,
      ap (rooms_of estimate task) begin,
      sum_by-cons (room_of estimate task) job.plan more,
    )

-- all jobs have room with one more that has
pub roomy_more : (estimate : Estimate) (task : ℕ) (jobs all : List Job) (job : Job) →
    All (IsRoomy estimate task) jobs → job.room ≡ room_of estimate task job.plan →
    all ≡ jobs ++ job ∷ [] → All (IsRoomy estimate task) all
roomy_more estimate task jobs all job roomy room pushed =
    subst (All (IsRoomy estimate task)) (sym pushed)
    (All-append (IsRoomy estimate task) jobs (job ∷ []) roomy
    (All-cons (IsRoomy estimate task) job [] (omega (arith, room)) (All-nil (IsRoomy estimate task))))

-- jobs whose work are numbered from 0 on are each of one of as many writers as there are plans
pub all_numbered : (jobs : List Job) (plans : List (List Command)) → map asked jobs ≡ work_from 0 plans →
    All (IsNumbered (length plans)) jobs
all_numbered jobs plans same =
    let many : 0 + length plans ≡ length plans = omega arith in
    subst (λ count. All (IsNumbered count) jobs) many (numbered_from 0 jobs plans same)
  where
    its_caller : (job : Job) (jobs : List Job) (one : Work) (works : List Work) →
        map asked (job ∷ jobs) ≡ one ∷ works → job.maker.caller ≡ one.caller
    its_caller job jobs one works same =
        let first : asked job ≡ one = cc in ap (λ (work : Work). work.caller) first

    others_asked : (job : Job) (jobs : List Job) (one : Work) (works : List Work) →
        map asked (job ∷ jobs) ≡ one ∷ works → map asked jobs ≡ works
    others_asked job jobs one works same = cc

    numbered_from : (caller : ℕ) (jobs : List Job) (plans : List (List Command)) →
        map asked jobs ≡ work_from caller plans → All (IsNumbered (caller + length plans)) jobs
    numbered_from caller [] plans same = All-nil (IsNumbered (caller + length plans))
    numbered_from caller (job ∷ jobs) [] same = absurd (cc)
    numbered_from caller (job ∷ jobs) (plan ∷ plans) same =
        let first = work caller (length plan) plan in
        let its : job.maker.caller ≡ caller = its_caller job jobs first (work_from (suc caller) plans) same in
        let later = numbered_from (suc caller) jobs plans
        (others_asked job jobs first (work_from (suc caller) plans) same) in
        let many : suc caller + length plans ≡ caller + length (plan ∷ plans) = omega arith in
        All-cons (IsNumbered (caller + length (plan ∷ plans))) job jobs (omega (arith, its))
        (subst (λ count. All (IsNumbered count) jobs) many later)

-- two lists of jobs that are done one behind the other
pub both_done : (jobs others : List Job) (dones more all : List Handed) → AreDone jobs dones →
    AreDone others more → all ≡ dones ++ more → AreDone (jobs ++ others) all
both_done jobs others dones more all done too is =
    ap (map done_by) is ∙ map-append done_by dones more ∙ ap₂ ◌++◌ done too ∙ sym (map-append asked jobs others)

-- and if both lists are handed in, as one
pub both_handed_done : {Dones Fault : Type 0} (first second : Result Dones Fault) (items : Dones → List Handed)
    (jobs others : List Job) (all : List Handed) →
    IsOkAnd first (λ dones. IsOkAnd second (λ more. all ≡ items dones ++ items more)) →
    IfOk first (λ dones. AreDone jobs (items dones)) → IfOk second (λ more. AreDone others (items more)) →
    AreDone (jobs ++ others) all
both_handed_done (Ok dones) (Ok more) items jobs others all is done too =
    both_done jobs others (items dones) (items more) all done too is
both_handed_done (Ok dones) (Err fault) items jobs others all is done too = absurd is
both_handed_done (Err fault) second items jobs others all is done too = absurd is

-- the two parts of a list of jobs
pub parts_done : (at : ℕ) (jobs first second : List Job) (dones : List Handed) → first ≡ take at jobs →
    second ≡ drop at jobs → AreDone (first ++ second) dones → AreDone jobs dones
parts_done at jobs first second dones front back done =
    subst (λ whole. AreDone whole dones) (ap₂ ◌++◌ front back ∙ take-append-drop at jobs) done

-- a lane that has room enough is split
pub splits : (lane : Lane) (room : ℕ) → room ≤ lane.room → split_fault lane room 0 ≡ None
splits lane room enough =
    let has_room : nat_lt lane.room room ≡ false = grind (arith, nat_tests, enough) in
    rw (has_room, none_held lane.held) refl

-- the room of a list of jobs is that of its two parts
pub rooms_of_parts : (at : ℕ) (jobs first second : List Job) → first ≡ take at jobs →
    second ≡ drop at jobs →
    room_for first + room_for second ≡ room_for jobs
rooms_of_parts at jobs first second front back =
    ap₂ (λ one other. room_for one + room_for other) front back
    ∙ sum_by-take-drop (λ (job : Job). job.room) jobs at

-- what holds of all jobs of a list holds of those of its two parts
pub parts_alike : (Holds : Job → Type 0) (at : ℕ) (jobs first second : List Job) → first ≡ take at jobs →
    second ≡ drop at jobs → All Holds jobs → All Holds first × All Holds second
parts_alike Holds at jobs first second front back all = (
  subst (All Holds) (sym front) (All-take Holds at jobs all),
  subst (All Holds) (sym back) (All-drop Holds at jobs all),
)

-- half a count is within it
pub half_within : (count all : ℕ) → count ≡ all → count / 2 ≤ all
half_within count all same = omega arith

-- of a list of two or more, the front half has some
pub front_some : (count again all front : ℕ) → 2 ≤ count → count ≡ all → again ≡ all → front ≡ again / 2 → 0 < front
front_some count again all front many is same half = omega arith

-- and the rest has some too
pub back_some : (count again all rest : ℕ) → 2 ≤ count → count ≡ all → again ≡ all → rest + again / 2 ≡ all → 0 < rest
back_some count again all rest many is same half = omega arith

-- the rooms of two lanes that were one are within what that was within
pub rooms_within : (first second room most same : ℕ) → first + second ≡ room → room ≤ most → same ≡ most →
    first + second ≤ same
rooms_within first second room most same rooms within is = omega arith

-- what holds of all jobs holds of the last
pub last_holds : (Holds : Job → Type 0) (jobs others : List Job) (job : Job) → jobs ≡ others ++ job ∷ [] →
    All Holds jobs → Holds job
last_holds Holds jobs others job split all =
    All-contains Holds (others ++ job ∷ []) job (subst (All Holds) split all) (Contains-push others job)

-- and if there is room for all, there is room for it
pub last_room : (jobs others : List Job) (job : Job) (most : ℕ) → jobs ≡ others ++ job ∷ [] → room_for jobs ≤ most →
    job.room ≤ most
last_room jobs others job most split within =
    omega (arith, within, ap room_for split, sum_by_push (λ (job : Job). job.room) others job)

-- of fewer than two jobs the last is the only one
only_one : (jobs others : List Job) (job : Job) → length jobs < 2 → jobs ≡ others ++ job ∷ [] → jobs ≡ job ∷ []
only_one jobs [] job few split = split
only_one jobs (other ∷ others) job few split = absurd (omega (arith, few, ap length split, length_push others job))

-- a list as long as it says has fewer than two jobs if it says so
few_items : {Z : Type 0} (jobs : Vec Job Z) → vec_len jobs < 2 → length jobs.items < 2
few_items jobs few = omega (arith, few, jobs.ok)

-- so they are done if it is
pub one_done : {Z : Type 0} (jobs : Vec Job Z) (others : List Job) (job : Job) (before dones : List Handed) (done : Handed) →
    vec_len jobs < 2 → jobs.items ≡ others ++ job ∷ [] → before ≡ [] → dones ≡ before ++ done ∷ [] →
    done_by done ≡ asked job → AreDone jobs.items dones
one_done jobs others job before dones done few split none pushed is =
    ap (map done_by) (pushed ∙ ap (λ others. others ++ done ∷ []) none) ∙ ap (λ work. work ∷ []) is
    ∙ sym (ap (map asked) (only_one jobs.items others job (few_items jobs few) split))

-- if there is room for what is left of a plan, there is room for all but its next command
pub room_rest : (estimate : Estimate) (task : ℕ) (command : Command) (plan rest : List Command) (room : ℕ) →
    room_of estimate task plan ≤ room → plan ≡ command ∷ rest → room_of estimate task rest ≤ room
room_rest estimate task command plan rest room within begin =
    let both = ap (room_of estimate task) begin in
    others_within (charge_for estimate task command) (room_of estimate task rest) (room_of estimate task plan) room
    both within
  where
    others_within : (one others all room : ℕ) → all ≡ max one others → all ≤ room → others ≤ room
    others_within one others all room both within = omega arith

-- if there is a place for each that is left, there is one for the next
pub place_next : {A : Type 0} (count places : ℕ) (one : A) (all rest : List A) → count + length all ≤ places →
    all ≡ one ∷ rest → count < places
place_next count places one all rest within begin = omega (arith, within, ap length begin)

-- and for the commands behind it
pub places_rest : (count more places same : ℕ) (command : Command) (plan rest : List Command) →
    count + length plan ≤ places → plan ≡ command ∷ rest → more ≡ count + 1 → same ≡ places →
    more + length rest ≤ same
places_rest count more places same command plan rest within begin one_more is =
    omega (arith, within, ap length begin, one_more, is)

-- the commands that were handed in and those that are left are the plan
pub commands_rest : (before after : List Receipt) (command : Command) (plan rest all : List Command) →
    commands_in before ++ plan ≡ all → plan ≡ command ∷ rest →
    commands_in after ≡ commands_in before ++ command ∷ [] → commands_in after ++ rest ≡ all
commands_rest before after command plan rest all whole begin called =
    ap (λ commands. commands ++ rest) called ∙ append_assoc (commands_in before) (command ∷ []) rest
    ∙ ap (λ others. commands_in before ++ others) (sym begin) ∙ whole

-- a share counts one record more for one more receipt
pub made_more : (now then begun first count more : ℕ) → now ≡ then + 1 → then ≡ begun → begun ≡ first + count →
    more ≡ count + 1 → now ≡ first + more
made_more now then begun first count more counted same made one_more = omega arith

-- a caller that stays is still one of as many as before
pub numbered_still : (now begun first writers : ℕ) → now ≡ begun → begun ≡ first → first < writers → now < writers
numbered_still now begun first writers same stays numbered = omega arith

-- a fault of the work that names no writer is one of the work of as many as there are
pub comes_of_more : (writers : ℕ) (fault : DriveFault) → ComesOfWork 0 fault → ComesOfWork writers fault
comes_of_more writers BadCount c = c
comes_of_more writers (BadPlan writer step) c = c
comes_of_more writers TooMuchRoom c = c
comes_of_more writers NoMemory c = c
comes_of_more writers (Stuck writer) c = omega (arith, c)
comes_of_more writers (Refused writer refusal) c = (c.0, omega (arith, c.1))
comes_of_more writers (Transport fault) c = c
comes_of_more writers (Finish fault) c = c

-- a fault of the work is no fault of the plans
pub comes_late : (writers : ℕ) (fault : DriveFault) → ComesOfWork writers fault → 3 < number_of fault
comes_late writers BadCount c = absurd c
comes_late writers (BadPlan writer step) c = absurd c
comes_late writers TooMuchRoom c = absurd c
comes_late writers NoMemory c = omega arith
comes_late writers (Stuck writer) c = omega arith
comes_late writers (Refused writer refusal) c = omega arith
comes_late writers (Transport fault) c = omega arith
comes_late writers (Finish fault) c = omega arith

-- a fault of the work names one of its writers, if it names one
pub names_one : (writers : ℕ) (fault : DriveFault) → ComesOfWork writers fault → NamesOneOf writers fault
names_one writers BadCount c = absurd c
names_one writers (BadPlan writer step) c = absurd c
names_one writers TooMuchRoom c = absurd c
names_one writers NoMemory c = c
names_one writers (Stuck writer) c = c
names_one writers (Refused writer refusal) c = c.1
names_one writers (Transport fault) c = c
names_one writers (Finish fault) c = c

-- a writer that was refused by the work found the history full
pub refused_when_full : {T : Type 0} (result : Result T DriveFault) (writers writer : ℕ) (refusal : Refusal) →
    IfErr result (ComesOfWork writers) → IsErrOf result (Refused writer refusal) → refusal ≡ HistoryFull
refused_when_full (Ok report) writers writer refusal comes is = absurd (cc is)
refused_when_full (Err fault) writers writer refusal comes is =
    let same : fault ≡ Refused writer refusal = cc is in
    let its = subst (ComesOfWork writers) same comes in its.0

-- and one of the plans was not refused
pub refused_late : {T : Type 0} (fault : DriveFault) (writer : ℕ) (refusal : Refusal) → number_of fault ≤ 3 →
    IsErrOf {T = T} (Err fault) (Refused writer refusal) → refusal ≡ HistoryFull
refused_late fault writer refusal early is =
    let same : fault ≡ Refused writer refusal = cc is in
    absurd (omega (arith, early, ap number_of same))
