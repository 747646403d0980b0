-- A seat that is cut in two, and two that become one, keep what holds between any two steps.
use Rattle.std.proofs.Common.{◌≡◌, ◌≢◌, ℕ, zero, suc, ◌+◌, ◌≤◌, ◌<◌, ◌^◌, List, [], ◌∷◌, ◌++◌, map, set, None, Some, sym, refl}
use Rattle.std.proofs.Common.{ap, ◌∙◌, subst, Bool, true, false, eqb, if◌then◌else◌, arith}
use mathlib.Core.Option.{some}
use lib.ListN.{get_elem?}
use Rattle.std.specs.Int.{bit_at}
use Rattle.std.specs.List.{All, slice_get}
use Rattle.std.proofs.lemmas.List.{map-set, map-append, append-nil}
use Rattle.std.proofs.lemmas.List.Elements.{All-set, All-append, All-weaker, All-nil, All-cons}
use Rattle.std.proofs.lemmas.List.Kept.{AllPairs-cons}
use Rattle.std.proofs.lemmas.Bool.{eqb-true, eqb-false}
use Rattle.std.proofs.lemmas.Nat.Bits.{bit_at-lt}
use Rattle.atomic_table.specs.Table.{Splits, Joins}
use Rattle.atomic_table.proofs.Lists.{set_here, set_else, at_longer}
use Rattle.ob_core.specs.declared.lane.Lane.{Lane}
use Rattle.ob_lanes.specs.Calls.{split_fault}
use Rattle.ob_lanes.specs.Inside.{kept_facts, given_facts, both_facts, spent_facts}
use Rattle.ob_lanes.specs.Ruled.{Ruled, HasEnded, HaveEnded, core_of}
use Rattle.ob_lanes.specs.Run.{BeginsWith, BeginsWithAll, made_at, own_steps}
use Rattle.ob_core.specs.World.{AreAmong, Grant}
use Rattle.ob_core.specs.Step.{IsFree, AreParts, IsDivision, IsMerger, spent_lane}
use Rattle.ob_lanes.specs.declared.facts.Ended.{Ended}
use Rattle.ob_lanes.specs.declared.facts.Facts.{Facts}
use Rattle.ob_lanes.specs.declared.facts.Move.{Move}
use Rattle.ob_lanes.specs.declared.facts.Move.TheVariants.{Divides, Merges}
use Rattle.ob_lanes.proofs.Halves.{are_parts, are_merged}
use Rattle.ob_core.proofs.LaneSums.{all_at, two-le-sum_by}
use Rattle.ob_lanes.proofs.KeptAccounts.{accounts_after_division, accounts_after_merger}
use Rattle.ob_lanes.proofs.Moves.{St, core, grant_known, begins_seen}
use Rattle.ob_lanes.proofs.Runs.{begins_all_more}
use Rattle.ob_lanes.proofs.Views.{slice_get_elem, slice_get_map, made_at-kept, made_at-new, map-same}
use Rattle.ob_lanes.proofs.Views.{spent-apart, ended-stays, none_ended, at_set, at_push, AllPairs-append}
use Rattle.std.proofs.lemmas.Option.{slice_get_within}

abbrev lane_of : Facts → Lane
lane_of facts = facts.lane

-- a lane raises only what it holds
raised_among : (grant : Grant) (s : St) (id : ℕ) (facts : Facts) → Ruled grant s
    → get_elem? s.views id ≡ some facts → AreAmong facts.lane.raised facts.lane.held
raised_among grant s id facts ruled at =
    all_at (λ (l : Lane). AreAmong l.raised l.held) (map lane_of s.views) id facts.lane
    (slice_get_map lane_of s.views id facts at) ruled.accounts.bits.among

-- what holds of one thing holds of the list of it alone
All-one : {X : Type 0} (P : X → Type 0) (x : X) → P x → All P (x ∷ [])
All-one P x holds zero d within = holds
All-one P x holds (suc k) d within = absurd (omega arith)

-- a move more leaves what all seats have seen
begins_views : (grant : Grant) (s : St) (move : Move) (ruled : Ruled grant s)
    → All (λ (f : Facts). BeginsWithAll (move ∷ ruled.run.moves) f.seen) s.views
begins_views grant s move ruled =
    All-weaker (λ (f : Facts). BeginsWithAll ruled.run.moves f.seen)
    (λ (f : Facts). BeginsWithAll (move ∷ ruled.run.moves) f.seen)
    (λ f. begins_all_more move ruled.run.moves f.seen) s.views ruled.run.begins

module _ (grant : Grant) (s : St) (id : ℕ) (facts : Facts) (room bits : ℕ) (ruled : Ruled grant s)
    (at : get_elem? s.views id ≡ some facts)
    (live : facts.spent ≡ false) (free : IsFree facts.lane) (small : bits < 2 ^ 32) (fine : split_fault facts.lane room bits ≡ None) where
  abbrev kept : Facts
  kept = kept_facts room bits facts

  abbrev given : Facts
  given = given_facts room bits facts

  abbrev Knows : Facts → Type 0
  Knows f = f.grant ≡ grant

  known : facts.grant ≡ grant
  known = grant_known grant s id facts ruled at

  abbrev halves : List Facts
  halves = set s.views id kept ++ given ∷ []

  is_division : IsDivision (core grant s) id kept.lane given.lane (core_of grant s.words halves)
  is_division = record {
    lane = facts.lane;
    is_lane = slice_get_map lane_of s.views id facts at;
    parts = are_parts room bits facts.lane small fine free (raised_among grant s id facts ruled at);
    after = ap (λ lanes. record (core grant s) { lanes = lanes })
        (map-append lane_of (set s.views id kept) (given ∷ [])
        ∙ ap (λ l. l ++ given.lane ∷ []) (map-set lane_of s.views id kept));
  }

  spent_stay : (seat : ℕ) (other : Facts) → get_elem? s.views seat ≡ some other → other.spent ≡ true
      → get_elem? halves seat ≡ some other
  spent_stay seat other their_at spent =
      at_longer (set s.views id kept) (given ∷ []) seat other
      (set_else s.views id seat kept (spent-apart s.views id seat facts other at live their_at spent) ∙ their_at)

  own_halves : (seat : ℕ) → own_steps seat (Divides id kept.lane given.lane given.name ∷ ruled.run.moves) ≡ made_at halves seat
  own_halves seat =
      append-nil _ ∙ ruled.run.own seat
      ∙ sym (made_at-new (set s.views id kept) given refl seat ∙ made_at-kept s.views id facts kept at refl seat)

  Ruled-division : Ruled grant (record { words = s.words; homes = s.homes; views = halves })
  Ruled-division = record {
    sixteen = ruled.sixteen;
    one_grant =
        All-append Knows (set s.views id kept) (given ∷ []) (All-set Knows s.views id kept known ruled.one_grant)
        (All-one Knows given known);
    accounts = accounts_after_division grant (core grant s) _ id kept.lane given.lane is_division ruled.accounts;
    run = record {
      moves = Divides id kept.lane given.lane given.name ∷ ruled.run.moves;
      leads = (core grant s, ruled.run.leads, is_division);
      own = own_halves;
      named = map-append (λ (f : Facts). f.name) (set s.views id kept) (given ∷ [])
          ∙ ap (λ names. names ++ given.name ∷ [])
          (map-same (λ (f : Facts). f.name) s.views id facts kept at refl ∙ ruled.run.named);
      begins =
          let move : Move = Divides id kept.lane given.lane given.name in
          let Begun : Facts → Type 0 = λ f. BeginsWithAll (move ∷ ruled.run.moves) f.seen in
          let begun : Begun facts =
          begins_all_more move ruled.run.moves facts.seen (begins_seen grant s id facts ruled at) in
          All-append Begun (set s.views id kept) (given ∷ [])
          (All-set Begun s.views id kept begun (begins_views grant s move ruled))
          (All-one Begun given begun);
    };
    owner = ruled.owner;
    taken =
        let Taken : ℕ → Facts → Type 0 = λ seat f. HaveEnded halves ruled.owner seat f.taken in
        let stays = ended-stays s.views halves spent_stay ruled.owner in
        at_push Taken (set s.views id kept) given (none_ended halves ruled.owner)
        (at_set Taken s.views id kept (stays id facts.taken (ruled.taken id facts at))
        (λ seat f _ here. stays seat f.taken (ruled.taken seat f here)));
  }

-- a seat that is free may be cut in two, if it has the room and the bits
pub division_allowed : (grant : Grant) (id : ℕ) (facts : Facts) (room bits : ℕ) → facts.spent ≡ false → IsFree facts.lane → bits < 2 ^ 32
    → split_fault facts.lane room bits ≡ None
    → Splits (Ruled grant) id facts (kept_facts room bits facts) (given_facts room bits facts)
division_allowed grant id facts room bits live free small fine s ruled at =
    Ruled-division grant s id facts room bits ruled at live free small fine

module _ (grant : Grant) (s : St) (id other : ℕ) (facts theirs : Facts) (ruled : Ruled grant s)
    (at : get_elem? s.views id ≡ some facts) (their_at : get_elem? s.views other ≡ some theirs)
    (apart : other ≢ id) (live : facts.spent ≡ false) (their_live : theirs.spent ≡ false) (free : IsFree facts.lane) (their_free : IsFree theirs.lane) where
  abbrev lanes : List Lane
  lanes = map lane_of s.views

  at_lane : slice_get lanes id ≡ Some facts.lane
  at_lane = slice_get_map lane_of s.views id facts at

  their_at_lane : slice_get lanes other ≡ Some theirs.lane
  their_at_lane = slice_get_map lane_of s.views other theirs their_at

  -- the two lanes share what there is
  rooms_fit : facts.lane.room + theirs.lane.room ≤ grant.room
  rooms_fit =
      omega (
        arith,
        two-le-sum_by (λ (l : Lane). l.room) lanes id other facts.lane theirs.lane
            (λ same. apart (sym same)) at_lane their_at_lane,
        ruled.accounts.bytes.rooms,
      )

  bits_apart : (i : ℕ) → bit_at facts.lane.held i + bit_at theirs.lane.held i ≤ 1
  bits_apart i =
      omega (
        arith,
        two-le-sum_by (λ (l : Lane). bit_at l.held i) lanes id other facts.lane theirs.lane
            (λ same. apart (sym same)) at_lane their_at_lane,
        ruled.accounts.bits.held i,
        bit_at-lt grant.bits i,
      )

  abbrev joined : Facts
  joined = both_facts facts theirs

  joined_parts : AreParts joined.lane facts.lane theirs.lane
  joined_parts = let known : facts.grant.room ≡ grant.room =
      ap (λ (o : Grant). o.room) (grant_known grant s id facts ruled at) in
      are_merged facts.grant.room facts.lane theirs.lane free their_free (raised_among grant s id facts ruled at)
      (raised_among grant s other theirs ruled their_at) (omega (arith, rooms_fit)) bits_apart

  -- whatever is left behind, it has no lane to speak of
  module _ (spent : Facts) (spent_grant : spent.grant ≡ theirs.grant) (spent_is : spent.lane ≡ spent_lane)
      (spent_made : spent.made ≡ theirs.made) (spent_seen : spent.seen ≡ []) (spent_name : spent.name ≡ theirs.name)
      (spent_taken : spent.taken ≡ []) (spent_spent : spent.spent ≡ true) where
    abbrev views : List Facts
    views = set (set s.views id joined) other spent

    is_merger : IsMerger (core grant s) id other joined.lane (core_of grant s.words views)
    is_merger = record {
      lane = facts.lane;
      other_lane = theirs.lane;
      is_lane = at_lane;
      is_other = their_at_lane;
      apart = apart;
      parts = joined_parts;
      after = ap (λ l. record (core grant s) { lanes = l })
          (map-set lane_of (set s.views id joined) other spent
          ∙ ap (λ l. set l other spent.lane) (map-set lane_of s.views id joined)
          ∙ ap (λ l. set (set lanes id joined.lane) other l) spent_is);
    }

    still : get_elem? (set s.views id joined) other ≡ some theirs
    still = set_else s.views id other joined apart ∙ their_at

    spent_still : (seat : ℕ) (one : Facts) → get_elem? s.views seat ≡ some one → one.spent ≡ true
        → get_elem? views seat ≡ some one
    spent_still seat one one_at is_spent =
        set_else (set s.views id joined) other seat spent
        (spent-apart s.views other seat theirs one their_at their_live one_at is_spent)
        ∙ set_else s.views id seat joined (spent-apart s.views id seat facts one at live one_at is_spent) ∙ one_at

    abbrev ended_one : Ended
    ended_one = record { name = theirs.name; made = theirs.made }

    -- what was taken in by either is the first one's now
    abbrev owner : ℕ → ℕ
    owner place = if eqb place other then id else if eqb (ruled.owner place) other then id else ruled.owner place

    owns_other : owner other ≡ id
    owns_other = by_test (eqb other other) refl
      where
        by_test : (same : Bool) → eqb other other ≡ same
            → (if same then id else if eqb (ruled.owner other) other then id else ruled.owner other) ≡ id
        by_test true is = refl
        by_test false is = absurd (eqb-false other other is refl)

    owns_else : (place by : ℕ) → place ≢ other → ruled.owner place ≡ by → by ≢ other → owner place ≡ by
    owns_else place by elsewhere owned another = by_tests (eqb place other) (eqb (ruled.owner place) other) refl refl
      where
        by_tests : (same its : Bool) → eqb place other ≡ same → eqb (ruled.owner place) other ≡ its
            → (if same then id else if its then id else ruled.owner place) ≡ by
        by_tests true its is of = absurd (elsewhere (eqb-true place other is))
        by_tests false true is of = absurd (another (sym owned ∙ eqb-true (ruled.owner place) other of))
        by_tests false false is of = owned

    owns_theirs : (place : ℕ) → place ≢ other → ruled.owner place ≡ other → owner place ≡ id
    owns_theirs place elsewhere owned = by_tests (eqb place other) (eqb (ruled.owner place) other) refl refl
      where
        by_tests : (same its : Bool) → eqb place other ≡ same → eqb (ruled.owner place) other ≡ its
            → (if same then id else if its then id else ruled.owner place) ≡ id
        by_tests true its is of = absurd (elsewhere (eqb-true place other is))
        by_tests false true is of = refl
        by_tests false false is of = absurd (eqb-false (ruled.owner place) other of owned)

    -- what has ended is not the lane that is taken in now
    elsewhere : (by : ℕ) (its : ℕ × Ended) → HasEnded s.views ruled.owner by its → its.0 ≢ other
    elsewhere by its has = spent-apart s.views other its.0 theirs has.facts their_at their_live has.at has.spent

    stays : (by now : ℕ) (its : ℕ × Ended) → owner its.0 ≡ now → HasEnded s.views ruled.owner by its
        → HasEnded views owner now its
    stays by now its owned has = record {
      facts = has.facts;
      at = spent_still its.0 has.facts has.at has.spent;
      spent = has.spent;
      name = has.name;
      made = has.made;
      owned = owned;
    }

    stays_else : (by : ℕ) → by ≢ other → (its : ℕ × Ended) → HasEnded s.views ruled.owner by its
        → HasEnded views owner by its
    stays_else by another its has = stays by by its (owns_else its.0 by (elsewhere by its has) has.owned another) has

    goes : (its : ℕ × Ended) → HasEnded s.views ruled.owner other its → HasEnded views owner id its
    goes its has = stays other id its (owns_theirs its.0 (elsewhere other its has) has.owned) has

    have_else : (by : ℕ) (taken : List Ended) → by ≢ other → HaveEnded s.views ruled.owner by taken
        → HaveEnded views owner by taken
    have_else by taken another have = record {
      placed = have.placed;
      all_of_them = have.all_of_them;
      apart = have.apart;
      ended = All-weaker (HasEnded s.views ruled.owner by) (HasEnded views owner by) (stays_else by another)
          have.placed have.ended;
    }

    has_ended : HasEnded views owner id (other, ended_one)
    has_ended = record {
      facts = spent;
      at = set_here (set s.views id joined) other spent
          (slice_get_within (set s.views id joined) other theirs
          (slice_get_elem (set s.views id joined) other theirs still));
      spent = spent_spent;
      name = spent_name;
      made = spent_made;
      owned = owns_other;
    }

    -- the lanes that both have taken in, and the one that is taken in now
    both_ended : HaveEnded views owner id (facts.taken ++ ended_one ∷ theirs.taken)
    both_ended =
        let mine = ruled.taken id facts at in
        let its = ruled.taken other theirs their_at in
        let Apart : ℕ × Ended → ℕ × Ended → Type 0 = λ one another. one.0 ≢ another.0 in
        let new : ℕ × Ended = (other, ended_one) in
        record {
          placed = mine.placed ++ new ∷ its.placed;
          all_of_them = map-append (λ (one : ℕ × Ended). one.1) mine.placed (new ∷ its.placed)
              ∙ ap (λ before. before ++ ended_one ∷ map (λ (one : ℕ × Ended). one.1) its.placed) mine.all_of_them
              ∙ ap (λ behind. facts.taken ++ ended_one ∷ behind) its.all_of_them;
          apart = AllPairs-append Apart mine.placed (new ∷ its.placed) mine.apart
              (AllPairs-cons Apart new its.placed
              (All-weaker (HasEnded s.views ruled.owner other) (Apart new)
              (λ one has same. elsewhere other one has (sym same)) its.placed its.ended) its.apart)
              (All-weaker (HasEnded s.views ruled.owner id) (λ one. All (Apart one) (new ∷ its.placed))
              (λ one has. All-cons (Apart one) new its.placed (elsewhere id one has)
              (All-weaker (HasEnded s.views ruled.owner other) (Apart one)
              (λ another theirs_has same. apart
              (sym theirs_has.owned ∙ ap ruled.owner (sym same) ∙ has.owned)) its.placed its.ended))
              mine.placed mine.ended);
          ended = All-append (HasEnded views owner id) mine.placed (new ∷ its.placed)
              (All-weaker (HasEnded s.views ruled.owner id) (HasEnded views owner id)
              (stays_else id (λ same. apart (sym same))) mine.placed mine.ended)
              (All-cons (HasEnded views owner id) new its.placed has_ended
              (All-weaker (HasEnded s.views ruled.owner other) (HasEnded views owner id) goes its.placed its.ended));
        }

    Ruled-merger : Ruled grant (record { words = s.words; homes = s.homes; views = views })
    Ruled-merger = record {
      sixteen = ruled.sixteen;
      one_grant =
          All-set (λ (f : Facts). f.grant ≡ grant) (set s.views id joined) other spent (spent_grant
          ∙ grant_known grant s other theirs ruled their_at)
          (All-set (λ (f : Facts). f.grant ≡ grant) s.views id joined
          (grant_known grant s id facts ruled at) ruled.one_grant);
      accounts = accounts_after_merger grant (core grant s) _ id other joined.lane is_merger ruled.accounts;
      run = record {
        moves = Merges id other joined.lane ∷ ruled.run.moves;
        leads = (core grant s, ruled.run.leads, is_merger);
        own = λ seat. append-nil _ ∙ ruled.run.own seat
            ∙ sym (made_at-kept (set s.views id joined) other theirs spent still spent_made seat
            ∙ made_at-kept s.views id facts joined at refl seat);
        named = map-same (λ (f : Facts). f.name) (set s.views id joined) other theirs spent still spent_name
            ∙ map-same (λ (f : Facts). f.name) s.views id facts joined at refl ∙ ruled.run.named;
        begins =
            let move : Move = Merges id other joined.lane in
            let Begun : Facts → Type 0 = λ f. BeginsWithAll (move ∷ ruled.run.moves) f.seen in
            let Begins : List Move → Type 0 = BeginsWith (move ∷ ruled.run.moves) in
            let mine : Begun facts =
            begins_all_more move ruled.run.moves facts.seen (begins_seen grant s id facts ruled at) in
            let theirs_too : Begun theirs =
            begins_all_more move ruled.run.moves theirs.seen (begins_seen grant s other theirs ruled their_at) in
            All-set Begun (set s.views id joined) other spent
            (subst (BeginsWithAll (move ∷ ruled.run.moves)) (sym spent_seen) (All-nil Begins))
            (All-set Begun s.views id joined (All-append Begins facts.seen theirs.seen mine theirs_too)
            (begins_views grant s move ruled));
      };
      owner = owner;
      taken =
          let Taken : ℕ → Facts → Type 0 = λ seat f. HaveEnded views owner seat f.taken in
          at_set Taken (set s.views id joined) other spent
          (subst (HaveEnded views owner other) (sym spent_taken) (none_ended views owner other))
          (λ seat f another here. at_set (λ k g. k ≢ other → Taken k g) s.views id joined (λ _. both_ended)
          (λ k g _ there elsewhere. have_else k g.taken elsewhere (ruled.taken k g there)) seat f here another);
    }

-- two seats that are free may become one
pub merger_allowed : (grant : Grant) (id other : ℕ) (facts theirs spent : Facts) → facts.spent ≡ false
    → theirs.spent ≡ false → IsFree facts.lane → IsFree theirs.lane → spent.grant ≡ theirs.grant → spent.made ≡ theirs.made → spent.name ≡ theirs.name
    → Joins (Ruled grant) id facts other theirs (both_facts facts theirs) (spent_facts spent)
merger_allowed grant id other facts theirs spent live their_live free their_free spent_grant spent_made spent_name s
    ruled at apart then_at =
    let their_at = sym (set_else s.views id other (both_facts facts theirs) apart) ∙ then_at in
    Ruled-merger grant s id other facts theirs ruled at their_at apart live their_live free their_free
    (spent_facts spent) spent_grant refl spent_made refl spent_name refl refl
