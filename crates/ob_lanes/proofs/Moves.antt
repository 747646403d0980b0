-- A step of one lane keeps what holds between any two steps.
use Rattle.std.proofs.Common.{◌≡◌, ℕ, ◌<◌, ◌^◌, List, [], ◌∷◌, ◌++◌, length, map, set, get_or, cond, eqb}
use Rattle.std.proofs.Common.{sym, refl, ap, ◌∙◌, subst, length-set, Some, true, false, arith}
use mathlib.Core.Option.{some}
use lib.ListN.{get_elem?}
use Rattle.std.specs.List.{All, slice_get}
use Rattle.std.proofs.lemmas.List.{map-set, get_or-set_same}
use Rattle.std.proofs.lemmas.List.Elements.{All-set, All-weaker}
use Rattle.std.proofs.lemmas.Option.{slice_get_within, get_or_from_slice_get}
use Rattle.atomic_table.specs.Table.{State, Me, Act, keeps, Valid, stepped, carried_after}
use Rattle.atomic_table.proofs.Lists.{set_here, set_else}
use Rattle.ob_types.specs.Marks.{word_half, total_half}
use Rattle.ob_core.specs.World.{AccountsHold, CoreState, Grant}
use Rattle.ob_core.specs.Step.{IsCoreStep, core_after_step, CanMake, total_after, word_after}
use Rattle.ob_core.specs.declared.lane.Lane.{Lane}
use Rattle.ob_core.specs.declared.lane_step.LaneStep.{LaneStep}
use Rattle.ob_core.proofs.AccountsLemmas.{AccountsHold-step, total-le-room}
use Rattle.ob_core.proofs.StepLemmas.{word_half-packed, total_half-packed}
use Rattle.ob_lanes.specs.Ruled.{Ruled, HaveEnded, HasRun, core_of, packed_after, Told, PackedTold, FactsSee}
use Rattle.ob_lanes.specs.Run.{BeginsWithAll, facts_after, IsInRun, Sees}
use Rattle.ob_lanes.specs.declared.facts.Facts.{Facts}
use Rattle.ob_lanes.specs.declared.facts.Made.{Made}
use Rattle.ob_lanes.specs.declared.facts.Move.{Move}
use Rattle.ob_lanes.specs.declared.facts.Move.TheVariants.{Steps}
use Rattle.ob_lanes.proofs.KeptAccounts.{accounts_after_step}
use Rattle.ob_lanes.proofs.Packs.{halves_packed}
use Rattle.ob_lanes.proofs.Runs.{begins_itself, begins_one, begins_all_more}
use Rattle.ob_lanes.proofs.Views.{slice_get_elem, slice_get_map, made_at-set, made_at-here, map-same}
use Rattle.ob_lanes.proofs.Views.{spent-apart, ended-stays, at_set}

abbrev pub St : Type 0
St = State (Unit {0}) Facts

abbrev lane_of : Facts → Lane
lane_of facts = facts.lane

-- the core state that the word and the facts are
abbrev pub core : Grant → St → CoreState
core grant s = core_of grant s.words s.views

-- what holds of each seat holds of the one
pub of_seat : (P : Facts → Type 0) (s : St) (id : ℕ) (facts : Facts) → All P s.views → get_elem? s.views id ≡ some facts
    → P facts
of_seat P s id facts all at =
    let here = slice_get_elem s.views id facts at in
    subst P (get_or_from_slice_get s.views id facts facts here) (all id facts (slice_get_within s.views id facts here))

-- each seat knows what the word was opened with
pub grant_known : (grant : Grant) (s : St) (id : ℕ) (facts : Facts) → Ruled grant s
    → get_elem? s.views id ≡ some facts → facts.grant ≡ grant
grant_known grant s id facts ruled at = of_seat (λ f. f.grant ≡ grant) s id facts ruled.one_grant at

-- the one run begins with all that a seat has seen
pub begins_seen : (grant : Grant) (s : St) (id : ℕ) (facts : Facts) (ruled : Ruled grant s)
    → get_elem? s.views id ≡ some facts → BeginsWithAll ruled.run.moves facts.seen
begins_seen grant s id facts ruled at =
    of_seat (λ f. BeginsWithAll ruled.run.moves f.seen) s id facts ruled.run.begins at

-- each seat stands in the run that there is
pub stands : (grant : Grant) (s : St) (id : ℕ) (facts : Facts) (ruled : Ruled grant s)
    → get_elem? s.views id ≡ some facts
    → IsInRun grant ruled.run.moves (core grant s) id facts.name facts.lane facts.made
stands grant s id facts ruled at = record {
  leads = ruled.run.leads;
  is_lane = slice_get_map (λ (f : Facts). f.lane) s.views id facts at;
  is_named = ap (λ names. slice_get names id) (sym ruled.run.named)
      ∙ slice_get_map (λ (f : Facts). f.name) s.views id facts at;
  is_made = ruled.run.own id ∙ made_at-here s.views id facts at;
}

-- what a seat has seen that makes a step now
abbrev pub sees_now : (grant : Grant) (s : St) → Ruled grant s → ℕ → LaneStep → ℕ → List (List Move)
sees_now grant s ruled id step found = (Steps id step found ∷ ruled.run.moves) ∷ []

-- the seat is there, its lane may make the step, and that makes this of the word
record Makes (grant : Grant) (s : St) (id : ℕ) (facts : Facts) (step : LaneStep) (words : List ℕ) : Type 0 where
  at : get_elem? s.views id ≡ some facts
  live : facts.spent ≡ false
  may : CanMake facts.lane step
  sixteen : length words ≡ 16
  room_fits : grant.room < 2 ^ 32
  both : get_or words 8 0 ≡ packed_after step grant.marks (get_or s.words 8 0)

module _ (grant : Grant) (s : St) (id : ℕ) (facts : Facts) (step : LaneStep) (words : List ℕ)
    (ruled : Ruled grant s) (t : Makes grant s id facts step words) where
  abbrev found : ℕ
  found = get_or s.words 8 0

  abbrev new : Facts
  new = facts_after step found (sees_now grant s ruled id step found) facts

  at_lane : slice_get (map lane_of s.views) id ≡ Some facts.lane
  at_lane = slice_get_map lane_of s.views id facts t.at

  -- the total stays within the whole room, so it never reaches the word
  small : total_after step (total_half found) < 4294967296
  small =
      let accounts : AccountsHold grant (core_after_step (core grant s) id facts.lane step) =
      AccountsHold-step grant (core grant s) id facts.lane step at_lane t.may ruled.accounts in
      omega (arith, total-le-room grant (core_after_step (core grant s) id facts.lane step) accounts.bytes, t.room_fits)

  total_is : total_half (get_or words 8 0) ≡ total_after step (total_half found)
  total_is = ap total_half t.both ∙ total_half-packed _ _ small

  word_is : word_half (get_or words 8 0) ≡ word_after step grant.marks (total_half found) (word_half found)
  word_is = ap word_half t.both ∙ word_half-packed _ _ small

  is_step : IsCoreStep (core grant s) id step (core_of grant words (set s.views id new))
  is_step = record {
    lane = facts.lane;
    is_lane = at_lane;
    allowed = t.may;
    after = λ i. record {
      total = total_is i;
      word = word_is i;
      marks = grant.marks;
      lanes = map-set lane_of s.views id new i;
    };
  }

  has_run : HasRun grant (core_of grant words (set s.views id new)) (set s.views id new)
  has_run =
      let run = ruled.run in
      let own = (record { step = step; found = found }) ∷ [] in
      let move : Move = Steps id step found in
      let Begun : Facts → Type 0 = λ f. BeginsWithAll (move ∷ run.moves) f.seen in
      record {
        moves = move ∷ run.moves;
        leads = (core grant s, run.leads, (is_step, sym (halves_packed found)));
        own = λ seat. ap (λ (made : List Made). made ++ cond (eqb id seat) own []) (run.own seat)
            ∙ sym (made_at-set s.views id facts new own t.at refl seat);
        named = map-same (λ (f : Facts). f.name) s.views id facts new t.at refl ∙ run.named;
        begins = All-set Begun s.views id new (begins_one _ _ (begins_itself (move ∷ run.moves)))
            (All-weaker (λ (f : Facts). BeginsWithAll run.moves f.seen) Begun
            (λ f. begins_all_more move run.moves f.seen) s.views run.begins);
      }

  -- seats that are spent stay
  spent_stay : (seat : ℕ) (other : Facts) → get_elem? s.views seat ≡ some other → other.spent ≡ true
      → get_elem? (set s.views id new) seat ≡ some other
  spent_stay seat other their_at spent =
      set_else s.views id seat new (spent-apart s.views id seat facts other t.at t.live their_at spent) ∙ their_at

  all_taken : (seat : ℕ) (other : Facts) → get_elem? (set s.views id new) seat ≡ some other
      → HaveEnded (set s.views id new) ruled.owner seat other.taken
  all_taken =
      let stays = ended-stays s.views (set s.views id new) spent_stay ruled.owner in
      at_set (λ seat (f : Facts). HaveEnded (set s.views id new) ruled.owner seat f.taken) s.views id new
      (stays id facts.taken (ruled.taken id facts t.at))
      (λ seat f _ at. stays seat f.taken (ruled.taken seat f at))

  Ruled-step : Ruled grant (record { words = words; homes = s.homes; views = set s.views id new })
  Ruled-step = record {
    sixteen = t.sixteen;
    one_grant =
        All-set (λ (f : Facts). f.grant ≡ grant) s.views id new
        (grant_known grant s id facts ruled t.at) ruled.one_grant;
    accounts = accounts_after_step grant (core grant s) _ id step is_step ruled.accounts;
    run = has_run;
    owner = ruled.owner;
    taken = all_taken;
  }

  sees_step : Sees grant facts.seen step found new.name new.lane new.made new.seen
  unfolding Ruled-step has_run
  sees_step = record {
    seat = id;
    before = ruled.run.moves;
    at = core grant s;
    core = core_of grant words (set s.views id new);
    leads = ruled.run.leads;
    total_found = refl;
    word_found = refl;
    seen_is = refl;
    begins = begins_seen grant s id facts ruled t.at;
    in_run = stands grant (record { words = words; homes = s.homes; views = set s.views id new }) id new Ruled-step
        (set_here s.views id new (slice_get_within s.views id facts (slice_get_elem s.views id facts t.at)));
  }

  knows_step : FactsSee step found facts new
  knows_step = subst (λ o. Sees o facts.seen step found new.name new.lane new.made new.seen)
      (sym (grant_known grant s id facts ruled t.at)) sees_step

-- so a table may let the lane make a step that writes this into the word
pub may_make : (grant : Grant) (s : St) (id value : ℕ) (me : Me (Unit {0}) Facts) (step : LaneStep)
    → grant.room < 2 ^ 32 → Ruled grant s → get_elem? s.views id ≡ some me.0 → me.0.spent ≡ false
    → CanMake me.0.lane step
    → value ≡ packed_after step grant.marks (get_or s.words 8 0) → PackedTold me.0 (get_or s.words 8 0)
    → (new : Facts) × (act : Act (Unit {0})) × Valid s.homes me.1 act
    × Ruled grant (stepped s 8 value id me.1 new act)
    × Told step me (get_or s.words 8 0) (new, carried_after me.1 act)
may_make grant s id value me step room ruled at live may both tells =
    let sixteen = ruled.sixteen in
    let made : Makes grant s id me.0 step (set s.words 8 value) = record {
      at = at;
      live = live;
      may = may;
      sixteen = length-set s.words 8 value ∙ sixteen;
      room_fits = room;
      both = get_or-set_same s.words 8 value 0 (omega (arith, sixteen)) ∙ both;
    } in (
      new grant s id me.0 step _ ruled made,
      keeps,
      tt,
      Ruled-step grant s id me.0 step _ ruled made,
      record {
        after = refl;
        slots = refl;
        sees = knows_step grant s id me.0 step _ ruled made;
        tells = tells;
      },
    )
