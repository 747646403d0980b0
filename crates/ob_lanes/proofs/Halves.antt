-- The two lanes that a split makes, and the one that a join makes, share what there was.
use Rattle.std.proofs.Common.{◌≡◌, ℕ, ◌+◌, ◌≤◌, ◌<◌, ◌^◌, [], ◌∷◌, Bool, true, false, not, nat_lt, bit_and, bit_or, bit_xor, None}
use Rattle.std.proofs.Common.{refl, arith}
use Rattle.std.specs.Int.{bit_at}
use Rattle.std.proofs.lemmas.Bool.{le-ltb}
use Rattle.std.proofs.lemmas.Bool.Decides.{nat_tests}
use Rattle.std.proofs.lemmas.Nat.Bits.{bit_at_and, bit_at_or, bit_at_xor, bit_at-lt}
use Rattle.ob_core.specs.World.{first_fault, AreAmong, MakeUp}
use Rattle.ob_core.specs.declared.lane.Lane.{Lane}
use Rattle.ob_lanes.specs.Calls.{IsJoined, split_fault, are_held, IsSplit}
use Rattle.ob_lanes.specs.Inside.{kept_lane, given_lane, both_lanes}
use Rattle.ob_core.specs.Step.{IsFree, AreParts}
use Rattle.ob_lanes.specs.declared.fault.SplitFault.TheVariants.{NoRoom, NotHeld}
use Rattle.ob_lanes.proofs.HeldBits.{are_held-from_among, among-from_are_held, among-from_or, or-from_among}

module _ (room bits : ℕ) (lane : Lane) (enough : room ≤ lane.room) (among : AreAmong bits lane.held) where
  held_shared : MakeUp lane.held (bit_xor lane.held bits) bits
  held_shared i = omega (arith, bit_at_xor lane.held bits i, among i, bit_at-lt lane.held i)

  raised_shared : MakeUp lane.raised (bit_xor lane.raised (bit_and lane.raised bits)) (bit_and lane.raised bits)
  raised_shared i =
      omega (
        arith,
        bit_at_xor lane.raised (bit_and lane.raised bits) i,
        bit_at_and lane.raised bits i,
        bit_at-lt lane.raised i,
      )

  -- what a caller is told of a split
  is_split : IsSplit room bits lane (kept_lane room bits lane) (given_lane room bits lane)
  is_split = record {
    first_free = record { debt = refl };
    second_free = record { debt = refl };
    rooms = omega (arith, enough);
    second_room = refl;
    held = held_shared;
    second_held = refl;
    raised = raised_shared;
    second_raised = bit_at_and lane.raised bits;
  }

  first_among : AreAmong lane.raised lane.held → AreAmong (bit_xor lane.raised (bit_and lane.raised bits))
      (bit_xor lane.held bits)
  first_among within i =
      omega (
        arith,
        raised_shared i,
        held_shared i,
        within i,
        bit_at_and lane.raised bits i,
        among i,
        bit_at-lt lane.held i,
      )

  -- what the core asks of a division
  parts : IsFree lane → AreAmong lane.raised lane.held
      → AreParts lane (kept_lane room bits lane) (given_lane room bits lane)
  parts free within = record {
    whole_free = free;
    first_free = record { debt = refl };
    second_free = record { debt = refl };
    rooms = omega (arith, enough);
    held = held_shared;
    raised = raised_shared;
    first_among = first_among within;
    second_among = λ i. omega (arith, bit_at_and lane.raised bits i);
  }

-- no fault is a fact of each kind
no_fault : (less held : Bool) → first_fault ((less, NoRoom) ∷ (not held, NotHeld) ∷ []) ≡ None
    → (less ≡ false) × (held ≡ true)
no_fault true held none = absurd (cc)
no_fault false true none = (refl, refl)
no_fault false false none = absurd (cc)

-- a split is not refused when there is room and the bits are held, and only then
pub not_refused : (room bits : ℕ) (lane : Lane) → room ≤ lane.room → bit_or lane.held bits ≡ lane.held
    → split_fault lane room bits ≡ None
not_refused room bits lane enough same =
    let holds : are_held bits lane.held ≡ true =
    are_held-from_among bits lane.held (among-from_or bits lane.held same) in
    rw (le-ltb lane.room room enough, holds) refl

pub held_unless_refused : (room bits : ℕ) (lane : Lane) → bits < 2 ^ 32 → split_fault lane room bits ≡ None
    → bit_or lane.held bits ≡ lane.held
held_unless_refused room bits lane small fine =
    let none = no_fault (nat_lt lane.room room) (are_held bits lane.held) fine in
    or-from_among bits lane.held (among-from_are_held bits lane.held small none.1)

-- what the core asks of a division that is not refused
pub are_parts : (room bits : ℕ) (lane : Lane) → bits < 2 ^ 32 → split_fault lane room bits ≡ None → IsFree lane
    → AreAmong lane.raised lane.held → AreParts lane (kept_lane room bits lane) (given_lane room bits lane)
are_parts room bits lane small fine free within =
    let none = no_fault (nat_lt lane.room room) (are_held bits lane.held) fine in
    parts room bits lane (grind (arith, nat_tests, none.0)) (among-from_are_held bits lane.held small none.1) free within

-- the same in the words of the caller
pub split_told : (room bits : ℕ) (lane seated first second : Lane) → seated ≡ lane → room ≤ seated.room
    → bit_or seated.held bits ≡ seated.held
    → first ≡ kept_lane room bits seated → second ≡ given_lane room bits seated → IsSplit room bits lane first second
split_told room bits lane seated first second is_lane enough among is_first is_second =
    rw (is_first, is_second, ← is_lane) (is_split room bits seated enough (among-from_or bits seated.held among))

-- what a caller is told of a join
is_joined : (whole : ℕ) (lane other : Lane) → IsJoined whole lane other (both_lanes whole lane other)
is_joined whole lane other = record {
  free = record { debt = refl };
  room = refl;
  held = bit_at_or lane.held other.held;
  raised = bit_at_or lane.raised other.raised;
}

-- two bits of which at most one is set
apart_or : (a b i : ℕ) → bit_at a i + bit_at b i ≤ 1 → bit_at a i + bit_at b i ≡ bit_at (bit_or a b) i
apart_or a b i apart = omega (arith, bit_at_or a b i)

-- what the core asks of a merger
pub are_merged : (whole : ℕ) (lane other : Lane) → IsFree lane → IsFree other → AreAmong lane.raised lane.held
    → AreAmong other.raised other.held → lane.room + other.room ≤ whole
    → ((i : ℕ) → bit_at lane.held i + bit_at other.held i ≤ 1) → AreParts (both_lanes whole lane other) lane other
are_merged whole lane other free other_free within other_within fits apart = record {
  whole_free = record { debt = refl };
  first_free = free;
  second_free = other_free;
  rooms = omega (arith, fits);
  held = λ i. apart_or lane.held other.held i (apart i);
  raised = λ i. apart_or lane.raised other.raised i (omega (arith, apart i, within i, other_within i));
  first_among = within;
  second_among = other_within;
}

-- the same in the words of the caller
pub join_told : (whole known : ℕ) (lane other seated other_seated both : Lane) → known ≡ whole → seated ≡ lane
    → other_seated ≡ other → both ≡ both_lanes known seated other_seated → IsJoined whole lane other both
join_told whole known lane other seated other_seated both is_whole is_lane is_other is_both =
    rw (is_both, is_whole, is_lane, is_other) (is_joined whole lane other)
