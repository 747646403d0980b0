use Rattle.std.proofs.Common.{◌≡◌, ◌≢◌, map, ◌≤◌, ◌<◌, ℕ, zero, suc, Bool, true, false, eqb, List, [], ◌∷◌, ◌++◌, if◌then◌else◌}
use Rattle.std.proofs.Common.{Option, None, Some, unwrap_or, refl, sym, ap, ◌∙◌, subst, arith}
use Rattle.std.specs.Int.{bit_at}
use Rattle.std.specs.List.{All, AllPairs, slice_get}
use Rattle.std.proofs.lemmas.List.{append-nil, same_from_push}
use Rattle.atomic_table.specs.Seated.{TableId}
use Rattle.ob_core.specs.World.{CoreState, one_lane, owed_by}
use Rattle.ob_core.specs.Step.{value_found, spent_lane}
use Rattle.ob_core.specs.declared.lane.Lane.{Lane}
use Rattle.ob_core.specs.declared.lane_step.LaneStep.TheVariants.{Load}
use Rattle.ob_core.proofs.AccountsLemmas.{total-le-room, total-le-outside, shown-held}
use Rattle.ob_lanes.specs.Run.{one_step, Leads, own_steps, names_in, BeginsWith, EndedAt, EndedIn, EndsRun}
use Rattle.ob_lanes.specs.declared.facts.Move.{Move}
use Rattle.ob_lanes.specs.declared.facts.Move.TheVariants.{Steps, Divides, Merges}
use Rattle.ob_lanes.specs.declared.facts.Ended.{Ended}
use Rattle.ob_lanes.specs.Worked.{joining, second_half}
use Rattle.ob_lanes.specs.Worked.{grant, half, met, with_bits, lone, bit_2_run, first_run, has_set, shows_bit_2}
use Rattle.ob_lanes.specs.declared.facts.Made.{Made}
use Rattle.ob_lanes.proofs.KeptAccounts.{accounts_after_run, not_opened}
use Rattle.ob_lanes.proofs.WorkedRuns.{alone, set_in_run, met_in_run, way, whole, joined_in_run, begins_none}
use Rattle.ob_lanes.proofs.Runs.{begins_itself, begins_one}
use Rattle.std.proofs.lemmas.List.Elements.{All-cons, All-head, All-tail, All-nil}
use Rattle.ob_lanes.proofs.worked.worked_places.Goals as goal

-- both halves owe 60
all_owe : (seat : ℕ) → slice_get (met 1).lanes seat ≡ Some (half None) → ⊥
all_owe zero is_lane =
    let wrong : ◌≡◌ {A = ℕ} 60 0 = ap (λ (l : Option Lane). owed_by (unwrap_or l (half None))) is_lane in
    absurd (omega (arith, wrong))
all_owe (suc zero) is_lane =
    let wrong : ◌≡◌ {A = ℕ} 60 0 = ap (λ (l : Option Lane). owed_by (unwrap_or l (half None))) is_lane in
    absurd (omega (arith, wrong))
all_owe (suc (suc seat)) is_lane = absurd (cc)

-- no lane has read a bit that was not opened
unread : (moves : List Move) (core : CoreState) (seat : ℕ) → Leads (one_lane grant) moves core
    → own_steps seat moves ≡ one_step Load shows_bit_2 → ⊥
unread [] core seat leads made = absurd (cc)
unread (Divides at kept given name ∷ earlier) core seat leads made =
    unread earlier leads.0 seat leads.1 (sym (append-nil (own_steps seat earlier)) ∙ made)
unread (Merges first second both ∷ earlier) core seat leads made =
    unread earlier leads.0 seat leads.1 (sym (append-nil (own_steps seat earlier)) ∙ made)
unread (Steps other step found ∷ earlier) core seat leads made =
    by_seat (eqb other seat) (unread earlier leads.0 seat leads.1) made
  where
    by_seat : (mine : Bool) → (own_steps seat earlier ≡ one_step Load shows_bit_2 → ⊥)
        → own_steps seat earlier ++ (if mine then one_step step found else []) ≡ one_step Load shows_bit_2 → ⊥
    by_seat false before made = before (sym (append-nil (own_steps seat earlier)) ∙ made)
    by_seat true before made =
        let read = (same_from_push (own_steps seat earlier) [] (record { step = step; found = found })
        (record { step = Load; found = shows_bit_2 }) made).1 in
        let both : shows_bit_2 ≡ value_found leads.0 = sym (ap (λ (m : Made). m.found) read) ∙ leads.2.1 in
        let holds = accounts_after_run grant earlier leads.0 refl leads.1 in
        let fits : leads.0.total ≤ 120 = total-le-room grant leads.0 holds.bytes in
        let word : 4 ≡ leads.0.word = omega (arith, both, fits) in
        let clear : bit_at leads.0.word 2 ≡ 0 = not_opened grant leads.0 2 holds (omega arith) refl in
        let wrong : ◌≡◌ {A = ℕ} 1 0 = ap (λ n. bit_at n 2) word ∙ clear in
        absurd (omega (arith, wrong))

pub returns-clause-second_half_in_run : goal.returns-clause-second_half_in_run
returns-clause-second_half_in_run c = (
  met_in_run,
  (λ moves seat name stands. all_owe seat stands.is_lane),
  (λ moves seat name stands.
      let holds = accounts_after_run grant moves (met 3) refl stands.leads in
      let wrong : ◌≡◌ {A = ℕ} 0 1 = holds.bits.shown 1 (omega arith) in
      absurd (omega (arith, wrong))),
  (λ moves seat name stands. unread moves (met 1) seat stands.leads stands.is_made),
)

-- no lane was taken in
none_in : (moves : List Move) (seat : ℕ) → EndedIn moves seat []
none_in moves seat = record {
  placed = [];
  all_of_them = refl;
  apart = λ i j d lt within. absurd (omega (arith, within));
  stand = All-nil (EndedAt moves seat);
}

-- the lane that the word is opened with holds bit 2
held_wrong : (lane : Lane) → Some lane ≡ Some (lone 0 None) → bit_at lane.held 2 ≡ 0 → ⊥
held_wrong lane is none =
    let one : bit_at (lone 0 None).held 2 ≡ 0 =
    subst (λ (l : Lane). bit_at l.held 2 ≡ 0) (ap (λ (l : Option Lane). unwrap_or l lane) is) none in
    let wrong : ◌≡◌ {A = ℕ} 1 0 = one in
    absurd (omega (arith, wrong))

-- a run whose first lane has set bit 2 does not begin with a division of it and an add
only_set : (moves later : List Move) (core : CoreState) (seat : ℕ) → Leads (one_lane with_bits) moves core
    → moves ≡ later ++ first_run → ⊥
only_set moves later core seat leads same = no_bits_here later core (subst (λ ms. Leads (one_lane with_bits) ms core) same leads)
  where
    no_bits_here : (later : List Move) (core : CoreState) → Leads (one_lane with_bits) (later ++ first_run) core → ⊥
    no_bits_here [] core leads =
        let division = leads.1.2 in
        let start = leads.1.1 in
        let room : ◌≡◌ {A = ℕ} 120 120 = refl in
        let lane_is = ap (λ (c : CoreState). slice_get c.lanes 0) start in
        let rooms = division.parts.held 2 in
        let is_lane = division.is_lane in
        held_wrong division.lane (sym is_lane ∙ lane_is) (sym rooms)
    no_bits_here (move ∷ later) core leads = no_bits_here later leads.0 leads.1

-- a lane that has all of the room and owes nothing ends with no total above 0
owes_nothing : (id : TableId) (total word : ℕ) → 0 < total → EndsRun (has_set id) total word → ⊥
owes_nothing id total word some end =
    let run = end.in_run in
    let holds = accounts_after_run with_bits end.moves end.core refl run.leads in
    absurd (omega (
      arith,
      total-le-outside with_bits end.core end.seat (lone 4 None) holds.bytes run.is_lane,
      end.total_is,
      some,
    ))

pub returns-clause-ends_with_bit_2 : goal.returns-clause-ends_with_bit_2
returns-clause-ends_with_bit_2 c id = (
  record {
    core = alone 0 4 (lone 4 None);
    moves = bit_2_run;
    seat = 0;
    in_run = set_in_run;
    begins = begins_one bit_2_run bit_2_run (begins_itself bit_2_run);
    ended = none_in bit_2_run 0;
    total_is = refl;
    word_is = refl;
  },
  owes_nothing id 4 0 (omega arith),
  owes_nothing id 1 4 (omega arith),
  (λ end.
      let run = end.in_run in
      let holds = accounts_after_run with_bits end.moves end.core refl run.leads in
      let wrong : ◌≡◌ {A = ℕ} 1 0 =
      sym (ap (λ n. bit_at n 1) end.word_is)
      ∙ shown-held with_bits end.core end.seat (lone 4 None) 1 holds.bits run.is_lane refl in
      absurd (omega (arith, wrong))),
  (λ end.
      let begins = All-head (BeginsWith end.moves) first_run [] end.begins in
      only_set end.moves begins.later end.core end.seat end.in_run.leads begins.run_is),
)

-- the second half stands in the second place alone
place_of_half : (place : ℕ) → slice_get (names_in joining) place ≡ Some (0 ∷ []) → place ≡ 1
place_of_half zero is = absurd (cc)
place_of_half (suc zero) is = refl
place_of_half (suc (suc place)) is = absurd (cc)

abbrev first_of : List Ended → Ended
first_of [] = second_half []
first_of (one ∷ others) = one

abbrev second_of : List Ended → Ended
second_of [] = second_half []
second_of (one ∷ others) = first_of others

-- where the first of those that ended stands, and the second
first_place : (seat : ℕ) (placed : List (ℕ × Ended)) (made : List Made) (others : List Ended)
    → map (λ (its : ℕ × Ended). its.1) placed ≡ second_half made ∷ others → All (EndedAt joining seat) placed
    → seat ≢ 1
first_place seat [] made others all stand same = absurd (cc)
first_place seat (one ∷ rest) made others all stand same =
    let here = All-head (EndedAt joining seat) one rest stand in
    here.elsewhere
    (place_of_half one.0 (here.is_named ∙ ap (λ ended. Some (first_of ended).name) all) ∙ sym same)

apart_once : (placed : List (ℕ × Ended)) (made : List Made)
    → map (λ (its : ℕ × Ended). its.1) placed ≡ second_half made ∷ second_half made ∷ []
    → AllPairs (λ its others. its.0 ≢ others.0) placed → All (EndedAt joining 0) placed → ⊥
apart_once [] made all apart stand = absurd (cc)
apart_once (one ∷ []) made all apart stand = absurd (cc)
apart_once (one ∷ other ∷ rest) made all apart stand =
    let first = All-head (EndedAt joining 0) one (other ∷ rest) stand in
    let second = All-head (EndedAt joining 0) other rest (All-tail (EndedAt joining 0) one (other ∷ rest) stand) in
    let at_one = place_of_half one.0 (first.is_named ∙ ap (λ ended. Some (first_of ended).name) all) in
    let at_other = place_of_half other.0 (second.is_named ∙ ap (λ ended. Some (second_of ended).name) all) in
    apart 0 1 one (omega arith) (omega arith) (at_one ∙ sym at_other)

-- what was taken in has read no bit that was not opened
unread_by : (moves : List Move) (core : CoreState) (seat : ℕ) (placed : List (ℕ × Ended))
    → Leads (one_lane grant) moves core
    → map (λ (its : ℕ × Ended). its.1) placed ≡ second_half (one_step Load shows_bit_2) ∷ []
    → All (EndedAt moves seat) placed → ⊥
unread_by moves core seat [] leads all stand = absurd (cc)
unread_by moves core seat (one ∷ rest) leads all stand =
    let here = All-head (EndedAt moves seat) one rest stand in
    unread moves core one.0 leads (here.is_made ∙ ap (λ ended. (first_of ended).made) all)

-- in the run of both, the second half is in the second place
second_ended : EndedIn joining 0 (second_half (one_step Load 0) ∷ [])
second_ended = record {
  placed = (1, second_half (one_step Load 0)) ∷ [];
  all_of_them = refl;
  apart = λ i j d lt within. absurd (omega (arith, lt, within));
  stand = All-cons (EndedAt joining 0) (1, second_half (one_step Load 0)) []
      (record { elsewhere = λ same. absurd (omega (arith, same)); is_named = refl; is_made = refl })
      (All-nil (EndedAt joining 0));
}

pub returns-clause-ends_joined : goal.returns-clause-ends_joined
returns-clause-ends_joined c id = (
  record {
    core = way 0 whole spent_lane;
    moves = joining;
    seat = 0;
    in_run = joined_in_run;
    begins = begins_none joining;
    ended = second_ended;
    total_is = refl;
    word_is = refl;
  },
  (λ end. unread_by end.moves end.core end.seat end.ended.placed end.in_run.leads end.ended.all_of_them end.ended.stand),
  second_ended,
  (λ ended. apart_once ended.placed (one_step Load 0) ended.all_of_them ended.apart ended.stand),
  (λ ended. first_place 1 ended.placed (one_step Load 0) [] ended.all_of_them ended.stand refl),
)
