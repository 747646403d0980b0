-- Tries of a step, one after another.
use Rattle.std.proofs.Common.{◌≡◌, ◌≢◌, ℕ, List, [], ◌++◌, refl, sym, ap, ◌∙◌, append_assoc, subst, arith}
use Rattle.std.proofs.lemmas.List.Elements.{All-nil, All-cons, All-append}
use Rattle.atomic_table.specs.declared.shared.Seat.{Seat}
use Rattle.ob_core.specs.World.{owed_by, Grant}
use Rattle.ob_core.specs.Step.{lane_after}
use Rattle.ob_core.specs.declared.lane.Lane.{Lane}
use Rattle.ob_core.specs.declared.lane_step.LaneStep.{LaneStep}
use Rattle.ob_core.specs.declared.lane_step.LaneStep.TheVariants.{Load}
use Rattle.ob_lanes.specs.Calls.{AreReads}
use Rattle.ob_lanes.specs.Inside.{KeepsRest, IsTrying, SeatTries, HasTried}
use Rattle.ob_lanes.specs.Run.{BeginsWithAll, one_step}
use Rattle.ob_lanes.specs.Ruled.{Knows, Told, ToldTry, MayExpect, Makes, MakesOrReads}
use Rattle.ob_lanes.specs.declared.facts.Facts.{Facts}
use Rattle.ob_lanes.specs.declared.facts.Made.{Made}
use Rattle.ob_lanes.specs.declared.facts.Move.{Move}
use Rattle.ob_lanes.proofs.Runs.{begins_behind}

abbrev IsRead : Made → Type 0
IsRead made = made.step ≡ Load

-- one read is a list of reads
one_read : (found : ℕ) → AreReads (one_step Load found)
one_read found = All-cons IsRead (record { step = Load; found = found }) [] refl (All-nil IsRead)

-- what begins with all that a step has shown begins with all that was seen before
step_hears : (step : LaneStep) (found : ℕ) (old new : Knows) → Told step old found new → (run : List Move)
    → BeginsWithAll run new.0.seen → BeginsWithAll run old.0.seen
step_hears step found old new told run whole =
    begins_behind _ told.sees.before old.0.seen run told.sees.begins
    (subst (BeginsWithAll run) told.sees.seen_is whole)

-- what a lane read it may expect
pub read_expects : (found : ℕ) (old new : Knows) → Told Load old found new → MayExpect new.0 found
read_expects found old new told =
    subst (λ (f : Facts). MayExpect f found) (sym told.after)
    (record { no_less = told.tells.no_less; no_more = told.tells.no_more })

-- a step more leaves all that no step changes
rest_after : (step : LaneStep) (found : ℕ) (old now new : Knows) → KeepsRest old now → Told step now found new
    → KeepsRest old new
rest_after step found old now new rest told = record {
  grant = ap (λ (f : Facts). f.grant) told.after ∙ rest.grant;
  name = ap (λ (f : Facts). f.name) told.after ∙ rest.name;
  splits = ap (λ (f : Facts). f.splits) told.after ∙ rest.splits;
  taken = ap (λ (f : Facts). f.taken) told.after ∙ rest.taken;
  spent = ap (λ (f : Facts). f.spent) told.after ∙ rest.spent;
  slots = told.slots ∙ rest.slots;
}

-- the first read
first_read : (found : ℕ) (old now : Knows) → Told Load old found now → IsTrying old found now
first_read found old now told = record {
  reads = one_step Load found;
  are_reads = one_read found;
  made = ap (λ (f : Facts). f.made) told.after;
  lane = ap (λ (f : Facts). f.lane) told.after;
  rest = rest_after Load found old old now
      (record { grant = refl; name = refl; splits = refl; taken = refl; spent = refl; slots = refl }) told;
  hears = step_hears Load found old now told;
  expects = read_expects found old now told;
}

-- one read more
next_read : (found other : ℕ) (old now new : Knows) → IsTrying old found now → Told Load now other new
    → IsTrying old other new
next_read found other old now new trying told = record {
  reads = trying.reads ++ one_step Load other;
  are_reads = All-append IsRead trying.reads (one_step Load other) trying.are_reads (one_read other);
  made = ap (λ (f : Facts). f.made) told.after ∙ ap (λ (made : List Made). made ++ one_step Load other) trying.made
      ∙ append_assoc old.0.made trying.reads (one_step Load other);
  lane = ap (λ (f : Facts). f.lane) told.after ∙ trying.lane;
  rest = rest_after Load other old now new trying.rest told;
  hears = λ run whole. trying.hears run (step_hears Load other now new told run whole);
  expects = read_expects other now new told;
}

-- a seat whose lane has read is trying
pub begun : (old now : Seat (Unit {0}) Facts) (found : ℕ) → Makes Load old found now → SeatTries old found now
begun old now found made = record { same = made.same; trying = first_read found old.me now.me made.told }

-- and so it is after an exchange that found another value than was read last, which is a read
pub again : (step : LaneStep) (found other : ℕ) (old now new : Seat (Unit {0}) Facts) → other ≢ found
    → SeatTries old found now → MakesOrReads step found now other new → SeatTries old other new
again step found other old now new missed tries made = record {
  same = (made.same.0 ∙ tries.same.0, made.same.1 ∙ tries.same.1);
  trying = next_read found other old.me now.me new.me tries.trying (made.told.read missed);
}

-- an exchange that found what it expected is the step, after the reads before it
pub tried : (step : LaneStep) (expected found : ℕ) (old now new : Knows) → found ≡ expected → IsTrying old expected now
    → ToldTry step expected now found new → HasTried step old found new
tried step expected found old now new same trying made =
    let told = made.made same in
    let lane : now.0.lane ≡ old.0.lane = trying.lane in
    let owed : owed_by now.0.lane ≡ owed_by old.0.lane = ap owed_by lane in
    let room : now.0.lane.room ≡ old.0.lane.room = ap (λ (l : Lane). l.room) lane in
    let whole : now.0.grant.room ≡ old.0.grant.room = ap (λ (g : Grant). g.room) trying.rest.grant in
    record {
      reads = trying.reads;
      are_reads = trying.are_reads;
      made = ap (λ (f : Facts). f.made) told.after ∙ ap (λ (made : List Made). made ++ one_step step found) trying.made;
      lane = ap (λ (f : Facts). f.lane) told.after ∙ ap (lane_after step) lane;
      rest = rest_after step found old now new trying.rest told;
      sees = record {
        seat = told.sees.seat;
        before = told.sees.before;
        at = told.sees.at;
        core = told.sees.core;
        leads = told.sees.leads;
        total_found = told.sees.total_found;
        word_found = told.sees.word_found;
        seen_is = told.sees.seen_is;
        begins = trying.hears told.sees.before told.sees.begins;
        in_run = told.sees.in_run;
      };
      expects = record {
        no_less = omega (arith, told.tells.no_less, owed);
        no_more = omega (arith, told.tells.no_more, owed, room, whole);
      };
    }
