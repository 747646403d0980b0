use Rattle.std.proofs.Common.{◌≡◌, ℕ, ◌+◌, ◌/◌, List, [], ◌∷◌, ◌++◌, None, Some, w32, refl, sym, ap, ◌∙◌, subst, arith}
use Rattle.std.specs.List.{sum_by}
use Rattle.std.proofs.lemmas.List.Elements.{All-head}
use Rattle.std.proofs.lemmas.Nat.Bits.{bit_at-lt}
use Rattle.ob_types.specs.declared.reply.Change.TheVariants.{Unwritable}
use Rattle.ob_core.specs.World.{with_bit}
use Rattle.ob_core.specs.Step.{change_found}
use Rattle.ob_core.specs.declared.lane_step.LaneStep.TheVariants.{SetBit}
use Rattle.ob_core.proofs.BitLemmas.{MakeUp-and}
use Rattle.ob_lanes.specs.Run.{BeginsWith}
use Rattle.ob_lanes.specs.Worked.{with_bits, bit_2_run, shows_bit_2}
use Rattle.ob_lanes.specs.declared.facts.Facts.{Facts}
use Rattle.ob_lanes.specs.declared.facts.Made.{Made}
use Rattle.ob_lanes.specs.declared.facts.Move.{Move}
use Rattle.ob_lanes.proofs.HeldBits.{same_up}
use Rattle.ob_lanes.proofs.WorkedRuns.{first_found, set_seen, read_seen}
use Rattle.ob_lanes.proofs.worked.worked_steps.Goals as goal

-- what some steps found, added up
abbrev all_found : List Made → ℕ
all_found made = sum_by (λ (m : Made). m.found) made

pub returns-clause-sets_bit_2 : goal.returns-clause-sets_bit_2
returns-clause-sets_bit_2 c id = (
  record { found = 0; steps = record { words = refl; made = refl; same = record { name = refl; splits = refl; taken = refl }; sees = set_seen }; lane = refl; turn = refl },
  (λ bit.
      let zero : 0 ≡ bit.found = ap first_found bit.steps.made in
      let turn : None ≡ Some Unwritable =
      subst (λ found. None ≡ change_found (SetBit 2) with_bits.marks found) (sym zero) bit.turn in
      absurd (cc)),
  (λ bit. let made = bit.steps.made in absurd (cc)),
  (λ bit. let wrong : ◌≡◌ {A = ℕ} 0 4 = ap (λ l. l.raised) bit.lane in absurd (omega (arith, wrong))),
  (λ bit. let seen = bit.steps.sees.seen_is in absurd (cc)),
  (λ bit. let wrong : ◌≡◌ {A = ℕ} 4 2 = ap (λ l. l.raised) bit.lane in absurd (omega (arith, wrong))),
)

-- the run before the last move of the first of some runs
abbrev rest_of : List (List Move) → List Move
rest_of [] = []
rest_of ([] ∷ runs) = []
rest_of ((move ∷ earlier) ∷ runs) = earlier

-- no empty run begins with one that is not
not_empty : (later : List Move) (move : Move) → [] ≡ later ++ move ∷ [] → ⊥
not_empty [] move same = absurd (cc)
not_empty (x ∷ later) move same = absurd (cc)

pub returns-clause-reads_behind : goal.returns-clause-reads_behind
returns-clause-reads_behind c id = (
  record { words = refl; made = refl; same = record { name = refl; splits = refl; taken = refl }; sees = read_seen },
  (λ has. let wrong : ◌≡◌ {A = ℕ} shows_bit_2 0 = ap first_found has.made in absurd (omega (arith, wrong))),
  (λ has. let wrong : ◌≡◌ {A = ℕ} shows_bit_2 0 = ap first_found has.made in absurd (omega (arith, wrong))),
  (λ has. let wrong : ◌≡◌ {A = ℕ} 6 0 = ap (λ w. w.grant.bits) has.words in absurd (omega (arith, wrong))),
  (λ has.
      let sees = has.sees in
      let begins = All-head (BeginsWith sees.before) bit_2_run [] sees.begins in
      let none : [] ≡ sees.before = ap rest_of sees.seen_is in
      not_empty begins.later _ (none ∙ begins.run_is)),
)

pub returns-clause-shows_bit_2 : goal.returns-clause-shows_bit_2
returns-clause-shows_bit_2 c = (
  (λ i held. refl),
  (λ i held.
      omega (
        arith,
        MakeUp-and w32 13 4 (omega arith) (omega arith) i,
        MakeUp-and w32 15 6 (omega arith) (omega arith) i,
        bit_at-lt 15 i,
        held,
      )),
  (λ shows. let wrong : ◌≡◌ {A = ℕ} 1 0 = shows 1 refl in absurd (omega (arith, wrong))),
  (λ shows. let wrong : ◌≡◌ {A = ℕ} 0 1 = shows 2 refl in absurd (omega (arith, wrong))),
)

pub returns-clause-reads_word : goal.returns-clause-reads_word
returns-clause-reads_word c id = (
  record {
    found = shows_bit_2;
    steps = record { words = refl; made = refl; same = record { name = refl; splits = refl; taken = refl }; sees = read_seen };
    word_is = refl;
    lane = refl;
    held = λ i held. refl;
  },
  (λ read.
      let found : ◌≡◌ {A = ℕ} shows_bit_2 (0 + read.found) = ap all_found read.steps.made in
      let is : 5 ≡ read.found / 4294967296 = read.word_is in
      absurd (omega (arith, found, is))),
  (λ read. let wrong : ◌≡◌ {A = ℕ} 0 1 = read.held 2 refl in absurd (omega (arith, wrong))),
  (λ read. let wrong : ◌≡◌ {A = ℕ} 0 4 = ap (λ l. l.raised) read.lane in absurd (omega (arith, wrong))),
)

pub returns-clause-tells_of_bit_2 : goal.returns-clause-tells_of_bit_2
returns-clause-tells_of_bit_2 c = (
  record {
    index = 2;
    within = omega arith;
    mask = refl;
    told = record {
      after = refl;
      slots = refl;
      sees = set_seen;
      tells = record { no_less = omega arith; no_more = omega arith; fits = omega arith; shows = λ i held. refl };
    };
  },
  (λ bit.
      let one : 1 ≡ bit.index = same_up 1 bit.index bit.mask in
      let wrong : ◌≡◌ {A = ℕ} 4 2 =
      subst (λ i. 4 ≡ with_bit 0 i) (sym one) (ap (λ (f : Facts). f.lane.raised) bit.told.after) in
      absurd (omega (arith, wrong))),
  (λ bit. let made = ap (λ (f : Facts). f.made) bit.told.after in absurd (cc)),
  (λ bit. let wrong : ◌≡◌ {A = ℕ} 1 0 = bit.told.tells.shows 1 refl in absurd (omega (arith, wrong))),
)
