-- The commands of a plan's runs, step by step: the room that they need, and the first bad step.
use Rattle.std.proofs.Common.{◌≡◌, ◌≢◌, ℕ, zero, suc, ◌+◌, ◌-◌, ◌<◌, ◌≤◌, Bool, true, false, List, [], ◌∷◌, ◌++◌}
use Rattle.std.proofs.Common.{length, drop, take, replicate, refl, sym, ap, ◌∙◌, arith, max, map, set, ap₂, nat_cmp}
use Rattle.std.proofs.Common.{not, cond}
use Rattle.std.proofs.lemmas.Grind.{flat_map-append}
use Rattle.std.proofs.lemmas.List.{append-nil, drop_all, drop_more, take-append-drop, take_more, length-drop}
use Rattle.std.proofs.lemmas.List.{length-map, length-take, map_more, take_more_set, length-append, length-replicate}
use Rattle.std.proofs.lemmas.List.Elements.{All-get_or}
use Rattle.std.proofs.Math.Seq.{drop-nil}
use Rattle.std.proofs.lemmas.Bool.Decides.{nat_tests}
use Rattle.std.proofs.lemmas.List.Sums.{sum_by_more}
use Rattle.std.specs.Prelude.{nat_lt, slice_index_or, None, Some}
use Rattle.std.specs.List.{All, position_or_len}
use Rattle.std.specs.Ordering.{ord_max}
use Rattle.ob_types.specs.declared.command.Command.{Command}
use Rattle.ob_types.specs.declared.estimate.Estimate.{Estimate}
use Rattle.ob_pool.specs.Inside.{IsWithinRun, commands_from, commands_in_run, commands_of}
use Rattle.ob_pool.specs.declared.plan.Run.{Run}
use Rattle.ob_pool.specs.Drive.{charge_for, room_of, rooms_of, bad_step, is_planned, bad_plan_from, fault_at}

-- the commands from a run on are its own, and those behind it
pub from_run : (runs : List Run) (at : ℕ) (run : Run) → at < length runs →
    commands_of (drop at runs)
    ≡ commands_in_run (slice_index_or runs at run) ++ commands_of (drop (at + 1) runs)
from_run runs at run within = ap commands_of (drop_more runs at run within)

-- of a run that is not spent, one more is given
given : (command : Command) (count done : ℕ) (others : List Command) → done < count →
    drop done (replicate count command ++ others) ≡ command ∷ drop (suc done) (replicate count command ++ others)
given command zero done others fewer = absurd (omega (arith, fewer))
given command (suc count) zero others fewer = refl
given command (suc count) (suc done) others fewer = given command count done others (omega (arith, fewer))

-- behind a run that is spent stand the others
spent : (command : Command) (count : ℕ) (others : List Command) → drop count (replicate count command ++ others) ≡ others
spent command zero others = refl
spent command (suc count) others = spent command count others

-- the next command is that of the run, if that is not spent
pub next_of : (runs : List Run) (at done : ℕ) (run : Run) → at < length runs → run ≡ slice_index_or runs at run →
    done < run.count → commands_from runs at done ≡ run.command ∷ commands_from runs at (done + 1)
next_of runs at done run within is fewer =
    let whole = from_run runs at run within ∙ ap (λ one. commands_in_run one ++ commands_of (drop (at + 1) runs)) (sym is) in
    ap (drop done) whole ∙ given run.command run.count done (commands_of (drop (at + 1) runs)) fewer
    ∙ ap (λ all. run.command ∷ drop (suc done) all) (sym whole)
    ∙ ap (λ more. run.command ∷ commands_from runs at more) (one_more done)
  where
    one_more : (count : ℕ) → suc count ≡ count + 1
    one_more count = omega arith

-- once a run is spent, those behind it are left
pub next_run : (runs : List Run) (at done : ℕ) (run : Run) → at < length runs → run ≡ slice_index_or runs at run →
    done + 1 ≡ run.count → commands_from runs at (done + 1) ≡ commands_from runs (at + 1) 0
next_run runs at done run within is last =
    let whole = from_run runs at run within ∙ ap (λ one. commands_in_run one ++ commands_of (drop (at + 1) runs)) (sym is) in
    ap (drop (done + 1)) whole ∙ ap (λ count. drop count (commands_in_run run ++ commands_of (drop (at + 1) runs))) last
    ∙ spent run.command run.count (commands_of (drop (at + 1) runs))

-- one more run adds its commands
pub runs_more : (runs : List Run) (index : ℕ) (run : Run) → index < length runs → run ≡ slice_index_or runs index run →
    commands_of (take (index + 1) runs) ≡ commands_of (take index runs) ++ commands_in_run run
runs_more runs index run within is =
    ap commands_of (take_more runs index run within)
    ∙ flat_map-append commands_in_run (take index runs) (slice_index_or runs index run ∷ [])
    ∙ ap (λ one. commands_of (take index runs) ++ one) (append-nil (commands_in_run (slice_index_or runs index run)))
    ∙ ap (λ one. commands_of (take index runs) ++ commands_in_run one) (sym is)

-- no run of a plan is empty
pub count_of : (runs : List Run) (index : ℕ) (run : Run) → All (λ one. 0 < one.count) runs → index < length runs →
    run ≡ slice_index_or runs index run → 0 < run.count
count_of runs index run some within is =
    omega (arith, All-get_or (λ one. 0 < one.count) runs index run within some, ap (λ (one : Run). one.count) is)

-- what holds of the runs of a plan holds of them wherever they are read
pub some_of : (runs kept : List Run) → runs ≡ kept → All (λ one. 0 < one.count) kept → All (λ one. 0 < one.count) runs
some_of runs kept same some = rw same some

-- the commands of a plan are those before a run, its own, and those behind it
pub whole_of : (runs : List Run) (index : ℕ) (run : Run) → index < length runs → run ≡ slice_index_or runs index run →
    commands_of runs
    ≡ commands_of (take index runs) ++ (commands_in_run run ++ commands_of (drop (index + 1) runs))
whole_of runs index run within is =
    sym (ap commands_of (take-append-drop index runs))
    ∙ flat_map-append commands_in_run (take index runs) (drop index runs)
    ∙ ap (λ rest. commands_of (take index runs) ++ rest) (from_run runs index run within)
    ∙ ap (λ one. commands_of (take index runs) ++ (commands_in_run one ++ commands_of (drop (index + 1) runs))) (sym is)

-- if commands are left from a run on, there is that run
pub within_of : (runs : List Run) (at done : ℕ) → commands_from runs at done ≢ [] → at < length runs
within_of runs at done some = by_test (nat_lt at (length runs)) refl
  where
    by_test : (less : Bool) → nat_lt at (length runs) ≡ less → at < length runs
    by_test true is = grind (arith, nat_tests, is)
    by_test false is =
        absurd (some (ap (λ left. drop done (commands_of left)) (drop_all at runs (grind (arith, nat_tests, is))) ∙ drop-nil done))

-- so the commands that are left are the next one, and those behind it
pub first_and_rest : (runs : List Run) (at done : ℕ) (run : Run) → at < length runs → run ≡ slice_index_or runs at run →
    done < run.count → commands_from runs at done ≡ run.command ∷ drop 1 (commands_from runs at done)
first_and_rest runs at done run within is fewer =
    let next = next_of runs at done run within is fewer in
    next ∙ ap (λ others. run.command ∷ others) (sym (ap (drop 1) next))

-- once the next is given, those behind it are left: in the run, if that is not spent
pub rest_in_run : (runs : List Run) (at done : ℕ) (run : Run) (left : List Command) → at < length runs →
    run ≡ slice_index_or runs at run → done < run.count → commands_from runs at done ≡ left →
    commands_from runs at (done + 1) ≡ drop 1 left
rest_in_run runs at done run left within is fewer same =
    sym (ap (drop 1) (next_of runs at done run within is fewer)) ∙ ap (drop 1) same

-- and behind it, if it is
pub rest_behind_run : (runs : List Run) (at done : ℕ) (run : Run) (left : List Command) → at < length runs →
    run ≡ slice_index_or runs at run → done < run.count → run.count - done ≤ 1 → commands_from runs at done ≡ left →
    commands_from runs (at + 1) 0 ≡ drop 1 left
rest_behind_run runs at done run left within is fewer last same =
    sym (next_run runs at done run within is (omega (arith, fewer, last)))
    ∙ rest_in_run runs at done run left within is fewer same

-- fewer of a run were given than it has
pub fewer_in : (runs : List Run) (at done : ℕ) (run : Run) → at < length runs → run ≡ slice_index_or runs at run →
    IsWithinRun runs at done → done < run.count
fewer_in runs at done run within is some =
    omega (arith, some.fewer run within, ap (λ (one : Run). one.count) is)

module _ (estimate : Estimate) (task : ℕ) where
  -- the room of commands and others behind them
  room_both : (plan others : List Command) →
      room_of estimate task (plan ++ others) ≡ max (room_of estimate task plan) (room_of estimate task others)
  room_both [] others = omega arith
  room_both (first ∷ plan) others = omega (arith, room_both plan others)

  -- the room of a run is the charge of its command
  room_run : (command : Command) (count : ℕ) → 0 < count →
      room_of estimate task (replicate count command) ≡ charge_for estimate task command
  room_run command zero some = absurd (omega (arith, some))
  room_run command (suc zero) some = omega arith
  room_run command (suc (suc count)) some = omega (arith, room_run command (suc count) (omega arith))

  -- the room of one more run
  pub room_more : (runs : List Run) (index : ℕ) (run : Run) → All (λ one. 0 < one.count) runs →
      index < length runs → run ≡ slice_index_or runs index run →
      room_of estimate task (commands_of (take (index + 1) runs))
      ≡ max (room_of estimate task (commands_of (take index runs))) (charge_for estimate task run.command)
  room_more runs index run some within is =
      let before = commands_of (take index runs) in
      ap (room_of estimate task) (runs_more runs index run within is)
      ∙ room_both before (commands_in_run run)
      ∙ ap (max (room_of estimate task before)) (room_run run.command run.count (count_of runs index run some within is))

  -- the room of one more plan, stored at its writer's place
  pub room_stored : (rooms : List ℕ) (plans : List (List Command)) (index writer room : ℕ) (plan : List Command) →
      writer ≡ index → index < length rooms → index < length plans → plan ≡ slice_index_or plans index plan →
      room ≡ room_of estimate task plan →
      take index rooms ≡ map (room_of estimate task) (take index plans) →
      take (index + 1) (set rooms writer room) ≡ map (room_of estimate task) (take (index + 1) plans)
  room_stored rooms plans index writer room plan at few within is its stored =
      ap (λ place. take (index + 1) (set rooms place room)) at
      ∙ take_more_set rooms index room few
      ∙ ap₂ (λ before last. before ++ last ∷ []) stored (its ∙ ap (room_of estimate task) is)
      ∙ sym (map_more (room_of estimate task) plans index plan within)

  -- the room of all plans with one more
  pub rooms_stored : (plans : List (List Command)) (index all room sum : ℕ) (plan : List Command) →
      index < length plans → plan ≡ slice_index_or plans index plan → room ≡ room_of estimate task plan →
      sum ≡ all + room → all ≡ rooms_of estimate task (take index plans) →
      sum ≡ rooms_of estimate task (take (index + 1) plans)
  rooms_stored plans index all room sum plan within is its both so_far =
      omega (
        arith,
        both,
        so_far,
        its ∙ ap (room_of estimate task) is,
        sum_by_more (room_of estimate task) plans index plan within,
      )

  -- the rooms of plans stand from a place on, so there is one for the next plan
  pub room_there : (rooms : List ℕ) (index : ℕ) (plan : List Command) (plans more : List (List Command)) →
      take (length plans) (drop index rooms) ≡ map (room_of estimate task) plans → plans ≡ plan ∷ more →
      index < length rooms
  room_there rooms index plan plans more ahead begin =
      omega (
        arith,
        ap length ahead,
        ap length begin,
        length-map plans (room_of estimate task),
        length-take (length plans) (drop index rooms),
        length-drop index rooms,
      )

  -- it is what the next plan needs, and the rooms of those behind it stand behind it
  pub next_room : (rooms : List ℕ) (index default : ℕ) (plan : List Command) (plans more : List (List Command)) →
      take (length plans) (drop index rooms) ≡ map (room_of estimate task) plans → plans ≡ plan ∷ more →
      (slice_index_or rooms index default ≡ room_of estimate task plan)
      × (take (length more) (drop (index + 1) rooms) ≡ map (room_of estimate task) more)
  next_room rooms index default plan plans more ahead begin =
      let within = room_there rooms index plan plans more ahead begin in
      let whole = sym (ap (take (suc (length more))) (drop_more rooms index default within))
      ∙ ap (λ all. take (length all) (drop index rooms)) (sym begin) ∙ ahead
      ∙ ap (map (room_of estimate task)) begin in (
        first_of (slice_index_or rooms index default) (room_of estimate task plan)
            (take (length more) (drop (index + 1) rooms)) _ whole,
        rest_of (slice_index_or rooms index default) (room_of estimate task plan)
            (take (length more) (drop (index + 1) rooms)) _ whole,
      )
    where
      first_of : (x y : ℕ) (xs ys : List ℕ) → x ∷ xs ≡ y ∷ ys → x ≡ y
      first_of x y xs ys same = cc

      rest_of : (x y : ℕ) (xs ys : List ℕ) → x ∷ xs ≡ y ∷ ys → xs ≡ ys
      rest_of x y xs ys same = cc

-- the greater of two numbers by their order
pub greater : (a b : ℕ) → ord_max nat_cmp a b ≡ max a b
greater a b = grind (arith, nat_tests)

drop_first : (plans : List (List Command)) (index : ℕ) (plan : List Command) → index < length plans →
    plan ≡ slice_index_or plans index plan → drop index plans ≡ plan ∷ drop (suc index) plans
drop_first [] index plan within is = absurd (omega (arith, within))
drop_first (first ∷ plans) zero plan within is = ap (λ other. other ∷ plans) (sym is)
drop_first (first ∷ plans) (suc index) plan within is = drop_first plans index plan (omega (arith, within)) is

-- the bad steps from a plan on are its own, and else those behind it
pub bad_from : (plans : List (List Command)) (index : ℕ) (plan : List Command) → index < length plans →
    plan ≡ slice_index_or plans index plan →
    bad_plan_from index (drop index plans)
    ≡ fault_at index (bad_step plan) (bad_plan_from (suc index) (drop (suc index) plans))
bad_from plans index plan within is = ap (bad_plan_from index) (drop_first plans index plan within is)

-- whether a command may not stand in a plan
abbrev pub is_bad : Command → Bool
is_bad command = not (is_planned command)

-- behind commands that may all stand in a plan, the first that may not is the first of those that follow
pub bad_behind : (good others : List Command) → position_or_len is_bad good ≡ length good →
    position_or_len is_bad (good ++ others) ≡ length good + position_or_len is_bad others
bad_behind [] others all = omega arith
bad_behind (command ∷ good) others all = by_command (is_bad command) refl all (bad_behind good others)
  where
    by_command : (bad : Bool) → is_bad command ≡ bad →
        cond (not bad) (1 + position_or_len is_bad good) 0 ≡ suc (length good) →
        (position_or_len is_bad good ≡ length good →
        position_or_len is_bad (good ++ others) ≡ length good + position_or_len is_bad others) →
        cond (not bad) (1 + position_or_len is_bad (good ++ others)) 0
        ≡ suc (length good) + position_or_len is_bad others
    by_command true is all rest = absurd (omega (arith, all))
    by_command false is all rest = omega (arith, rest (omega (arith, all)))

-- a run of a command that may stand in a plan has no bad step
pub good_run : (command : Command) (count : ℕ) → is_bad command ≡ false →
    position_or_len is_bad (replicate count command) ≡ count
good_run command zero is = refl
good_run command (suc count) is =
    ap (λ bad. cond (not bad) (1 + position_or_len is_bad (replicate count command)) 0) is
    ∙ omega (arith, good_run command count is)

-- and one of a command that may not has its first at its beginning
pub bad_run : (command : Command) (count : ℕ) (others : List Command) → 0 < count → is_bad command ≡ true →
    position_or_len is_bad (replicate count command ++ others) ≡ 0
bad_run command zero others some is = absurd (omega (arith, some))
bad_run command (suc count) others some is =
    ap (λ bad. cond (not bad) (1 + position_or_len is_bad (replicate count command ++ others)) 0) is

found : (place count : ℕ) → place < count → cond (nat_lt place count) (Some place) None ≡ Some place
found place count within = grind (arith, nat_tests, within)

-- the first bad step of runs whose first ones are good, if the next is not
pub first_bad : (runs : List Run) (index step : ℕ) (run : Run) → All (λ one. 0 < one.count) runs →
    index < length runs → run ≡ slice_index_or runs index run → step ≡ length (commands_of (take index runs)) →
    position_or_len is_bad (commands_of (take index runs)) ≡ step → is_bad run.command ≡ true →
    Some step ≡ bad_step (commands_of runs)
first_bad runs index step run some within is at good bad =
    let before = commands_of (take index runs) in
    let after = commands_of (drop (index + 1) runs) in
    let rest = commands_in_run run ++ after in
    let fewer = count_of runs index run some within is in
    let none = bad_run run.command run.count after fewer bad in
    let place : position_or_len is_bad (before ++ rest) ≡ step =
    bad_behind before rest (good ∙ at) ∙ omega (arith, none, at) in
    let longer : step < length (before ++ rest) =
    omega (
      arith,
      at,
      fewer,
      length-append before rest,
      length-append (commands_in_run run) after,
      length-replicate run.count run.command,
    ) in
    sym (ap bad_step (whole_of runs index run within is)
    ∙ ap (λ first. cond (nat_lt first (length (before ++ rest))) (Some first) None) place
    ∙ found step (length (before ++ rest)) longer)

-- one more good run
pub good_more : (runs : List Run) (index step : ℕ) (run : Run) →
    index < length runs → run ≡ slice_index_or runs index run → step ≡ length (commands_of (take index runs)) →
    position_or_len is_bad (commands_of (take index runs)) ≡ step → is_bad run.command ≡ false →
    (step + run.count ≡ length (commands_of (take (index + 1) runs)))
    × (position_or_len is_bad (commands_of (take (index + 1) runs)) ≡ step + run.count)
good_more runs index step run within is at good planned =
    let before = commands_of (take index runs) in
    let more = runs_more runs index run within is in (
      omega (arith, at, ap length more, length-append before (commands_in_run run), length-replicate run.count run.command),
      ap (position_or_len is_bad) more ∙ bad_behind before (commands_in_run run) (good ∙ at)
          ∙ omega (arith, at, good_run run.command run.count planned),
    )

-- as many commands as stand up to a run and in it, the plan has at least
pub within_all : (runs : List Run) (index step : ℕ) (run : Run) → index < length runs →
    run ≡ slice_index_or runs index run → step ≡ length (commands_of (take index runs)) →
    step + run.count ≤ length (commands_of runs)
within_all runs index step run within is at =
    let before = commands_of (take index runs) in
    let after = commands_of (drop (index + 1) runs) in
    omega (
      arith,
      at,
      ap length (whole_of runs index run within is),
      length-append before (commands_in_run run ++ after),
      length-append (commands_in_run run) after,
      length-replicate run.count run.command,
    )
