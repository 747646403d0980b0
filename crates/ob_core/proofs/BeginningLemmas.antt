-- The accounts hold at the beginning.
use Rattle.std.proofs.Common.{◌≡◌, ℕ, ◌+◌, ◌<◌, ◌≤◌, Bool, true, false, ◌||◌, ◌==◌, nat_lt, List, [], ◌∷◌, length}
use Rattle.std.proofs.Common.{map, bit_and, None, refl, sym, ap, arith}
use Rattle.std.specs.Int.{bit_at}
use Rattle.std.specs.List.{All, list_any}
use Rattle.std.proofs.lemmas.Bool.Decides.{nat_tests}
use Rattle.std.proofs.lemmas.List.Elements.{All-map}
use Rattle.std.proofs.lemmas.List.Sums.{sum_by-cons}
use Rattle.std.proofs.lemmas.Nat.Bits.{bit_at-lt, bit_at-zero, bit_at_and, bit_at_or}
use Rattle.ob_types.specs.Marks.{Marks}
use Rattle.ob_core.specs.World.{AccountsHold, BitsAgree, BytesAgree, IsWithinRoom, MarkAgrees, holders, raisers}
use Rattle.ob_core.specs.World.{sum_of_rooms, owed_by, sum_owed, is_set, AreAmong, first_fault, most_lanes}
use Rattle.ob_core.specs.World.{greatest_room, Grant, any_overlap, bits_of, holders_of, is_bad_count, new_lane}
use Rattle.ob_core.specs.World.{new_core, one_lane, start_fault, grant_of, room_of, share_a_bit}
use Rattle.ob_core.specs.declared.lane.Lane.{Lane}
use Rattle.ob_core.specs.declared.lane_start.LaneStart.{LaneStart}
use Rattle.ob_core.specs.declared.world_fault.WorldFault.TheVariants.{BadCount, TooMuchRoom, BitsTwice}
use Rattle.ob_core.proofs.StepLemmas.{zero-clear}

-- ---- no fault

-- no fault is a fact of each kind
no_fault : (bad_count too_much twice : Bool)
    → first_fault ((bad_count, BadCount) ∷ (too_much, TooMuchRoom) ∷ (twice, BitsTwice) ∷ []) ≡ None
    → (bad_count ≡ false) × (too_much ≡ false) × (twice ≡ false)
no_fault true too_much twice none = absurd (cc)
no_fault false true twice none = absurd (cc)
no_fault false false true none = absurd (cc)
no_fault false false false none = (refl, refl, refl)

count_fits : (n : ℕ) → ((n == 0) || nat_lt most_lanes n) ≡ false → (0 < n) × (n ≤ most_lanes)
count_fits n fine = (grind (arith, nat_tests), grind (arith, nat_tests))

room_fits : (n : ℕ) → nat_lt greatest_room n ≡ false → n ≤ greatest_room
room_fits n fine = grind (arith, nat_tests)

-- lanes that make a world
pub record AreFine (starts : List LaneStart) : Type 0 where
  pub some_lane : 0 < length starts
  pub few_lanes : length starts ≤ most_lanes
  pub rooms_fit : room_of starts ≤ greatest_room
  pub bits_apart : any_overlap (holders_of (map (λ start. start.bits) starts)) ≡ false

pub AreFine-no_fault : (starts : List LaneStart) → start_fault starts ≡ None → AreFine starts
AreFine-no_fault starts none =
    let fine = no_fault (is_bad_count starts) _ _ none in
    let count : (0 < length starts) × (length starts ≤ most_lanes) = count_fits (length starts) fine.0 in
    record {
      some_lane = count.0;
      few_lanes = count.1;
      rooms_fit = room_fits (room_of starts) fine.1;
      bits_apart =
          fine.2;
    }

-- ---- the bytes

pub no_debts : (starts : List LaneStart) → sum_owed (map new_lane starts) ≡ 0
no_debts [] = refl
no_debts (start ∷ starts) = omega (arith, sum_by-cons owed_by (new_lane start) (map new_lane starts), no_debts starts)

same_rooms : (starts : List LaneStart) → sum_of_rooms (map new_lane starts) ≡ room_of starts
same_rooms [] = refl
same_rooms (start ∷ starts) =
    omega (
      arith,
      sum_by-cons (λ (l : Lane). l.room) (new_lane start) (map new_lane starts),
      sum_by-cons
          (λ (s : LaneStart). s.room) start starts,
      same_rooms starts,
    )

pub BytesAgree-new : (marks : Marks) (starts : List LaneStart)
    → BytesAgree (grant_of marks starts) (new_core marks starts)
BytesAgree-new marks starts = record {
  marks = refl;
  total = sym (no_debts starts);
  rooms = same_rooms starts;
  within = All-map IsWithinRoom new_lane starts (λ k d inside. omega arith);
}

pub MarkAgrees-new : (marks : Marks) (starts : List LaneStart) → MarkAgrees (new_core marks starts)
MarkAgrees-new marks starts =
    record { above = λ high low. absurd (omega (arith, high)); below = λ low high. zero-clear 0 0 (bit_at-zero 0) }

-- ---- the bits

neither : (p q : Bool) → (p || q) ≡ false → (p ≡ false) × (q ≡ false)
neither true q none = absurd (cc)
neither false q none = (refl, none)

-- of a bit, two masks that are apart have one together at most
apart_at : (a b : ℕ) → share_a_bit a b ≡ false → (i : ℕ) → bit_at a i + bit_at b i ≤ 1
apart_at a b apart i =
    let none : bit_and a b ≡ 0 = grind (arith, nat_tests) in
    omega (arith, ap (λ n. bit_at n i) none, bit_at_and a b i, bit_at-zero i, bit_at-lt a i, bit_at-lt b i)

apart_of_all : (mask : ℕ) (starts : List LaneStart)
    → list_any (share_a_bit mask) (map (λ start. start.bits) starts) ≡ false → (i : ℕ)
    → bit_at mask i + bit_at (bits_of starts) i ≤ 1
apart_of_all mask [] none i = omega (arith, bit_at-zero i, bit_at-lt mask i)
apart_of_all mask (start ∷ starts) none i =
    let both = neither (share_a_bit mask start.bits) _ none in
    omega (
      arith,
      apart_at mask start.bits both.0 i,
      apart_of_all mask starts both.1 i,
      bit_at_or start.bits
          (bits_of starts) i,
    )

-- so the lanes hold each bit as often as all masks together have it
held_once : (starts : List LaneStart) → any_overlap (map (λ start. start.bits) starts) ≡ false → (i : ℕ)
    → holders (map new_lane starts) i ≤ bit_at (bits_of starts) i
held_once [] none i = omega arith
held_once (start ∷ starts) none i =
    let both = neither (list_any (share_a_bit start.bits) (map (λ s. s.bits) starts)) _ none in
    omega (
      arith,
      sum_by-cons (λ (l : Lane). bit_at l.held i) (new_lane start) (map new_lane starts),
      held_once starts both.1 i,
      apart_of_all start.bits starts both.0 i,
      bit_at_or start.bits (bits_of starts) i,
    )

none_raised : (starts : List LaneStart) (i : ℕ) → raisers (map new_lane starts) i ≡ 0
none_raised [] i = refl
none_raised (start ∷ starts) i =
    omega (
      arith,
      sum_by-cons (λ (l : Lane). bit_at l.raised i) (new_lane start) (map new_lane starts),
      none_raised starts i,
      bit_at-zero i,
    )

none_among : (starts : List LaneStart) → All (λ (l : Lane). AreAmong l.raised l.held) (map new_lane starts)
none_among starts = All-map (λ (l : Lane). AreAmong l.raised l.held) new_lane starts
    (λ k d inside i. omega (arith, bit_at-zero i))

pub BitsAgree-new : (marks : Marks) (starts : List LaneStart)
    → any_overlap (holders_of (map (λ start. start.bits) starts)) ≡ false
    → BitsAgree (grant_of marks starts) (new_core marks starts)
BitsAgree-new marks starts apart =
    let both = neither (list_any (share_a_bit 1) (map (λ s. s.bits) starts)) _ apart in
    record {
      mark = zero-clear (bits_of starts) 0 (omega (arith, apart_of_all 1 starts both.0 0));
      held = held_once starts both.1;
      among = none_among starts;
      shown = λ i above. omega (arith, none_raised starts i, bit_at-zero i);
    }

pub AccountsHold-new : (marks : Marks) (starts : List LaneStart) → start_fault starts ≡ None
    → AccountsHold (grant_of marks starts) (new_core marks starts)
AccountsHold-new marks starts none = record {
  bytes = BytesAgree-new marks starts;
  mark = MarkAgrees-new marks starts;
  bits = BitsAgree-new marks starts (AreFine-no_fault starts none).bits_apart;
}

-- ---- a lone lane

pub AccountsHold-one_lane : (grant : Grant) → is_set grant.bits 0 ≡ false
    → AccountsHold grant (one_lane grant)
AccountsHold-one_lane grant mark =
    let starts : List LaneStart = record { room = grant.room; bits = grant.bits } ∷ [] in
    let bytes = BytesAgree-new grant.marks starts in
    record {
      bytes = record {
        marks = refl;
        total = bytes.total;
        rooms = omega (arith, bytes.rooms);
        within = bytes.within;
      };
      mark = MarkAgrees-new grant.marks starts;
      bits = record {
        mark = mark;
        held = λ i. omega arith;
        among = none_among starts;
        shown = λ i above. omega (arith, none_raised starts i, bit_at-zero i);
      };
    }
