-- Segments of entries, one behind the other, and the one in which a place lies.
use Rattle.std.specs.Prelude.{◌%◌}
use Rattle.std.specs.VecDeque.{deque_capacity, deque_len}
use Rattle.std_alloc.specs.declared.vec.deque.VecDeque.{VecDeque}
use Rattle.std.proofs.Common.{Global}
use Rattle.std.proofs.Math.Seq.{drop-append-add}
use Rattle.std.proofs.lemmas.List.{drop-append-le, drop_more, length-drop, length-set, length-take, set-append_left}
use Rattle.std.proofs.lemmas.List.{set-append_right, take-append-le}
use Rattle.ob_seq.proofs.Words.{◌≡◌, ◌<◌, ◌≤◌, ◌+◌, ◌-◌, ◌*◌, ◌/◌, ℕ, zero, suc, List, [], ◌∷◌, ◌++◌, length, take, drop, get_or}
use Rattle.ob_seq.proofs.Words.{slice_set, refl, sym, ap, ◌∙◌, arith, append_assoc, append-nil, length-append, nat_tests, Entry}
use Rattle.ob_seq.specs.Laid.{AreFull, AreInFront, AreLaid, IsFoundIn, Laid, capacity_of, entries_of, fronts, items_of, laid_of}
use Rattle.ob_seq.specs.Laid.{segment_room}
use Rattle.ob_seq.specs.Unsent.{HoldsLittleMore, grown_room}
use Rattle.ob_seq.specs.Lent.{with_entry}
use Rattle.std.specs.VecDeque.{deque_with_item}
use Rattle.ob_seq.specs.declared.entries.Entries.TheInside.{Inside}

module _ {Z : Type 0} where
  -- the entries of some segments and then of another
  pub entries_behind : (segments : List (VecDeque Entry Z)) (last : VecDeque Entry Z) →
      entries_of (segments ++ last ∷ []) ≡ entries_of segments ++ last.items
  entries_behind [] last = append-nil last.items
  entries_behind (segment ∷ segments) last =
      rw (entries_behind segments last) (sym (append_assoc segment.items (entries_of segments) last.items))

  -- a full one may follow
  pub full_behind : (segments : List (VecDeque Entry Z)) (last : VecDeque Entry Z) → AreFull segments →
      deque_len last ≡ segment_room → deque_capacity last ≡ segment_room → AreFull (segments ++ last ∷ [])
  full_behind [] last full long wide = ((long, wide), tt)
  full_behind (segment ∷ segments) last full long wide = (full.0, full_behind segments last full.1 long wide)

  -- for how many entries there is memory with one segment more
  pub capacity_behind : (segments : List (VecDeque Entry Z)) (last : VecDeque Entry Z) →
      capacity_of (segments ++ last ∷ []) ≡ capacity_of segments + deque_capacity last
  capacity_behind [] last = omega arith
  capacity_behind (segment ∷ segments) last = omega (arith, capacity_behind segments last)

  -- full ones have no other place
  pub full_capacity : (segments : List (VecDeque Entry Z)) → AreFull segments →
      capacity_of segments ≡ length segments * segment_room
  full_capacity [] full = refl
  full_capacity (segment ∷ segments) full = omega (arith, full.0.1, full_capacity segments full.1)

  full_count : (segments : List (VecDeque Entry Z)) → AreFull segments →
      length (entries_of segments) ≡ length segments * segment_room
  full_count [] full = refl
  full_count (segment ∷ segments) full =
      omega (arith, full_count segments full.1, full.0.0, segment.ok, length-append segment.items (entries_of segments))

  -- those in front by their number
  module _ (first : VecDeque Entry Z) (segments : List (VecDeque Entry Z)) (front : AreInFront first segments) where
    pub count_in_front : length (entries_of (first ∷ segments)) ≡ deque_len first + length segments * segment_room
    count_in_front =
        omega (arith, full_count segments front.full, first.ok, length-append first.items (entries_of segments))

    pub places_in_front : capacity_of (first ∷ segments) ≡ deque_capacity first + length segments * segment_room
    places_in_front = omega (arith, full_capacity segments front.full)

    pub few_in_front : length (entries_of (first ∷ segments)) < 9223372036854775808
    few_in_front = omega (arith, count_in_front, front.few, front.small, first.ok, first.small)

  -- full segments have 128 entries each
  full_before : (segments : List (VecDeque Entry Z)) (n : ℕ) → AreFull segments → n ≤ length segments →
      length (entries_of (take n segments)) ≡ n * segment_room
  full_before segments zero full few = refl
  full_before [] (suc n) full few = absurd (omega (arith, few))
  full_before (segment ∷ segments) (suc n) full few =
      omega (
        arith,
        full_before segments n full.1 (omega (arith, few)),
        full.0.0,
        segment.ok,
        length-append segment.items (entries_of (take n segments)),
      )

  full_at : (segments : List (VecDeque Entry Z)) (n : ℕ) (segment : VecDeque Entry Z) → AreFull segments →
      n < length segments → segment ≡ get_or segments n segment → deque_len segment ≡ segment_room
  full_at [] n segment full some is = absurd (omega (arith, some))
  full_at (one ∷ segments) zero segment full some is = ap (λ (one : VecDeque Entry Z). deque_len one) is ∙ full.0.0
  full_at (one ∷ segments) (suc n) segment full some is =
      full_at segments n segment full.1 (omega (arith, some)) is

  -- a place behind the first segment lies in one of the others
  pub found_behind : (first : VecDeque Entry Z) (segments : List (VecDeque Entry Z)) (place ahead : ℕ) → AreFull segments →
      place < length (entries_of (first ∷ segments)) → ahead ≡ deque_len first → ahead ≤ place →
      IsFoundIn (first ∷ segments) place ((place - ahead) / 128 + 1) ((place - ahead) % 128)
  found_behind first segments place ahead behind there same past =
      let n = (place - ahead) / 128 in
      let all = full_count segments behind in
      let count = length-append first.items (entries_of segments) in
      let within : n < length segments = omega (arith, all, count, there, same, past, first.ok) in
      let next : n + 1 ≡ suc n = omega arith in
      let front = full_before segments n behind (omega (arith, within)) in record {
        within = omega (arith, within);
        inner = λ segment here.
            let full = full_at segments n segment behind within
            (here ∙ ap (λ (k : ℕ). get_or (first ∷ segments) k segment) next) in
            omega (arith, full);
        before = rw next (omega (arith, same, past, front, first.ok, length-append first.items (entries_of (take n segments))));
      }

-- a segment behind the first stands one further among all in front
module _ {Z : Type 0} (first : VecDeque Entry Z) (segments : List (VecDeque Entry Z)) where
  stands_behind : (n : ℕ) (segment : VecDeque Entry Z) → 0 < n → segment ≡ get_or segments (n - 1) segment →
      segment ≡ get_or (first ∷ segments) n segment
  stands_behind zero segment some is = absurd (omega (arith, some))
  stands_behind (suc n) segment some is =
      let same : suc n - 1 ≡ n = omega arith in
      rw same at is

  set_behind_first : (n : ℕ) (segment : VecDeque Entry Z) → 0 < n →
      first ∷ slice_set segments (n - 1) segment ≡ slice_set (first ∷ segments) n segment
  set_behind_first zero segment some = absurd (omega (arith, some))
  set_behind_first (suc n) segment some =
      let same : suc n - 1 ≡ n = omega arith in
      rw same refl

-- all places can be counted
pub countable : (inside : Inside) → AreLaid inside →
    length (entries_of (fronts inside)) + deque_capacity inside.last < 18446744073709551616
countable inside sound = omega (arith, few_in_front inside.first inside.more.items sound.front, sound.small)

pub all_countable : (inside : Inside) {laid : Laid} → laid_of inside ≡ laid → AreLaid inside →
    length laid.items < 18446744073709551616
all_countable inside view sound =
    rw (← view) (omega (
      arith,
      countable inside sound,
      inside.last.ok,
      inside.last.small,
      length-append (entries_of (fronts inside)) inside.last.items,
    ))

-- they all have memory for those for which there is room and for little more
pub holds_little_more : (inside : Inside) → AreLaid inside → (let laid = laid_of inside in HoldsLittleMore (length laid.items) laid.room laid.capacity)
holds_little_more inside sound =
    let first = inside.first in
    let count = count_in_front first inside.more.items sound.front in
    let places = places_in_front first inside.more.items sound.front in
    let all = length-append (entries_of (fronts inside)) inside.last.items in record {
      all = omega (arith, count, places, all, inside.last.ok, inside.last.small, first.ok, first.small);
      few = omega (arith, count, places, all, inside.last.ok, inside.last.small, sound.front.small);
      empty = λ nothing.
          let none : deque_len first ≡ 0 = omega (arith, count, all, nothing) in
          omega (arith, count, places, all, inside.last.ok, inside.last.small, none, (sound.front.none none).1);
    }

-- behind some in front the last has 128 entries if it has no place left
pub last_full : (inside : Inside) {laid : Laid} → laid_of inside ≡ laid → AreLaid inside → laid.room ≡ length laid.items →
    0 < deque_len inside.first → deque_len inside.last ≡ segment_room
last_full inside view sound full some =
    omega (arith, rw (← view) at full, sound.room some, inside.last.small)

-- many grow by a segment
pub segment_more : (count room : ℕ) → room ≡ count → segment_room ≤ count → grown_room count room ≡ count + segment_room
segment_more count room full many = grind (arith, nat_tests)

-- an entry behind others is set where those end
set_behind : (front back : List Entry) (n : ℕ) (entry : Entry) →
    front ++ slice_set back n entry ≡ slice_set (front ++ back) (length front + n) entry
set_behind front back n entry =
    let behind : n ≡ length front + n - length front = omega arith in
    ap (λ (k : ℕ). front ++ slice_set back k entry) behind
    ∙ sym (set-append_right front back (length front) (length front + n) entry refl (omega arith))

-- what stands at a place of one segment stands there among all
module _ {Z : Type 0} (segment : VecDeque Entry Z) (rest : ℕ) (inner : rest < length segment.items) where
  -- all from that place on
  from_segment : (segments : List (VecDeque Entry Z)) (n : ℕ) → n < length segments → segment ≡ get_or segments n segment →
      drop (length (entries_of (take n segments)) + rest) (entries_of segments)
      ≡ drop rest segment.items ++ entries_of (drop (suc n) segments)
  from_segment [] n some is = absurd (omega (arith, some))
  from_segment (one ∷ segments) zero some is =
      let same : rest ≡ 0 + rest = omega arith in
      rw (← same, ← is) (drop-append-le rest segment.items (entries_of segments) (omega (arith, inner)))
  from_segment (one ∷ segments) (suc n) some is =
      let front = entries_of (take n segments) in
      let same : length (one.items ++ front) + rest ≡ length one.items + (length front + rest) =
      rw (length-append one.items front) (omega arith) in
      rw same (drop-append-add one.items (entries_of segments) (length front + rest)
      ∙ from_segment segments n (omega (arith, some)) is)

  module _ (entry : Entry) (other : VecDeque Entry Z) (items : other.items ≡ slice_set segment.items rest entry)
      (long : deque_len other ≡ deque_len segment) (wide : deque_capacity other ≡ deque_capacity segment) where
    set_there : (segments : List (VecDeque Entry Z)) (n : ℕ) → n < length segments → segment ≡ get_or segments n segment →
        entries_of (slice_set segments n other)
        ≡ slice_set (entries_of segments) (length (entries_of (take n segments)) + rest) entry
    set_there [] n some is = absurd (omega (arith, some))
    set_there (one ∷ segments) zero some is =
        let same : rest ≡ 0 + rest = omega arith in
        rw (← same, ← is) (ap (λ (list : List Entry). list ++ entries_of segments) items
        ∙ sym (set-append_left segment.items (entries_of segments) rest entry inner))
    set_there (one ∷ segments) (suc n) some is =
        let front = entries_of (take n segments) in
        let same : length (one.items ++ front) + rest ≡ length one.items + (length front + rest) =
        rw (length-append one.items front) (omega arith) in
        rw same (ap (λ (list : List Entry). one.items ++ list) (set_there segments n (omega (arith, some)) is)
        ∙ set_behind one.items (entries_of segments) (length front + rest) entry)

    full_there : (segments : List (VecDeque Entry Z)) (n : ℕ) → AreFull segments → n < length segments →
        segment ≡ get_or segments n segment → AreFull (slice_set segments n other)
    full_there [] n full some is = absurd (omega (arith, some))
    full_there (one ∷ segments) zero full some is =
        let long_there = long ∙ ap (λ (one : VecDeque Entry Z). deque_len one) is ∙ full.0.0 in
        ((long_there, wide ∙ ap (λ (one : VecDeque Entry Z). deque_capacity one) is ∙ full.0.1), full.1)
    full_there (one ∷ segments) (suc n) full some is = (full.0, full_there segments n full.1 (omega (arith, some)) is)

    capacity_there : (segments : List (VecDeque Entry Z)) (n : ℕ) → n < length segments →
        segment ≡ get_or segments n segment → capacity_of (slice_set segments n other) ≡ capacity_of segments
    capacity_there [] n some is = absurd (omega (arith, some))
    capacity_there (one ∷ segments) zero some is =
        omega (arith, wide, ap (λ (one : VecDeque Entry Z). deque_capacity one) is)
    capacity_there (one ∷ segments) (suc n) some is =
        omega (arith, capacity_there segments n (omega (arith, some)) is)

-- a place in the last segment
module _ (inside : Inside) {laid : Laid} (view : laid_of inside ≡ laid) {place ahead : ℕ}
    (count : ahead ≡ length (entries_of (fronts inside))) (some : place < length laid.items) (past : ahead ≤ place) where
  abbrev pub rest : ℕ
  rest = place - ahead

  pub in_last : rest < length inside.last.items
  in_last =
      let within = rw (← view) at some in
      omega (arith, within, count, past, length-append (entries_of (fronts inside)) inside.last.items)

  from_last : drop place (items_of inside) ≡ drop rest inside.last.items
  from_last =
      let there : place ≡ length (entries_of (fronts inside)) + rest = omega (arith, count, past) in
      ap (λ (n : ℕ). drop n (items_of inside)) there ∙ drop-append-add (entries_of (fronts inside)) inside.last.items rest

  pub run_in_last : {run : List Entry} → run ≡ take (length run) (drop rest inside.last.items) →
      run ≡ take (length run) (drop place laid.items)
  run_in_last {run} lies = rw (← view) (lies ∙ ap (take (length run)) (sym from_last))

  pub one_in_last : {entry : Entry} → entry ≡ get_or inside.last.items rest entry → entry ≡ get_or laid.items place entry
  one_in_last {entry} one =
      let all = rw (drop_more inside.last.items rest entry in_last, ← one) at from_last in
      let there = rw (← view) at some in
      rw (← view) (ap (λ (list : List Entry). get_or list 0 entry)
      (sym (rw (drop_more (items_of inside) place entry there) at all)))

  pub lent_last : (entry : Entry) →
      laid_of (record inside { last = deque_with_item inside.last rest entry }) ≡ with_entry laid place entry
  lent_last entry =
      let other = slice_set inside.last.items rest entry in
      let there : length (entries_of (fronts inside)) + rest ≡ place = omega (arith, count, past) in
      let items : entries_of (fronts inside) ++ other ≡ slice_set (items_of inside) place entry =
      set_behind (entries_of (fronts inside)) inside.last.items rest entry
      ∙ ap (λ (n : ℕ). slice_set (items_of inside) n entry) there in
      let room : length (entries_of (fronts inside) ++ other) + (deque_capacity inside.last - deque_len inside.last)
      ≡ length (items_of inside) + (deque_capacity inside.last - deque_len inside.last) = rw (items, length-set) refl in
      rw (← view) (λ k. record {
        items = items k;
        room = room k;
        capacity = capacity_of (fronts inside) + deque_capacity inside.last;
      })

-- a place in a segment in front
module _ (inside : Inside) {laid : Laid} (view : laid_of inside ≡ laid) {place index rest : ℕ}
    (found : IsFoundIn (fronts inside) place index rest) {segment : VecDeque Entry Global}
    (is : segment ≡ get_or (fronts inside) index segment) where
  in_segment : rest < length segment.items
  in_segment = omega (arith, found.inner segment is, segment.ok)

  from_there : drop place (items_of inside)
      ≡ drop rest segment.items ++ entries_of (drop (suc index) (fronts inside)) ++ inside.last.items
  from_there =
      let all = entries_of (fronts inside) in
      let there = from_segment segment rest in_segment (fronts inside) index found.within is in
      let some : place ≤ length all =
      omega (arith, found.before, ap (λ (list : List Entry). length list) there, length-drop (length (entries_of (take index (fronts inside))) + rest) all, length-append (drop rest segment.items) (entries_of (drop (suc index) (fronts inside))), length-drop rest segment.items, in_segment) in
      drop-append-le place all inside.last.items some
      ∙ ap (λ (list : List Entry). list ++ inside.last.items)
      (ap (λ (n : ℕ). drop n all) found.before ∙ there)

  pub run_there : {run : List Entry} → run ≡ take (length run) (drop rest segment.items) →
      run ≡ take (length run) (drop place laid.items)
  run_there {run} lies =
      let short = ap (λ (list : List Entry). length list) lies in
      let all = length-take (length run) (drop rest segment.items) in
      let tail = entries_of (drop (suc index) (fronts inside)) in
      rw (← view) (lies
      ∙ sym (take-append-le (length run) (drop rest segment.items) (tail ++ inside.last.items) (omega (arith, short, all)))
      ∙ ap (take (length run)) (sym (append_assoc (drop rest segment.items) tail inside.last.items) ∙ sym from_there))

  pub one_there : {entry : Entry} → place < length laid.items → entry ≡ get_or segment.items rest entry →
      entry ≡ get_or laid.items place entry
  one_there {entry} some one =
      let there = rw (← view) at some in
      let all = rw (drop_more segment.items rest entry in_segment, ← one) at from_there in
      rw (← view) (ap (λ (list : List Entry). get_or list 0 entry)
      (sym (rw (drop_more (items_of inside) place entry there) at all)))

  module _ (entry : Entry) where
    abbrev pub lent : List (VecDeque Entry Global)
    lent = slice_set (fronts inside) index (deque_with_item segment rest entry)

    lent_entries : entries_of lent ≡ slice_set (entries_of (fronts inside)) place entry
    lent_entries =
        set_there segment rest in_segment entry (deque_with_item segment rest entry) refl refl refl (fronts inside) index
        found.within is
        ∙ ap (λ (n : ℕ). slice_set (entries_of (fronts inside)) n entry) (sym found.before)

    -- it stands in the place of that segment
    pub lent_there : (new : Inside) → fronts new ≡ lent → new.last ≡ inside.last → place < length (entries_of (fronts inside)) →
        laid_of new ≡ with_entry laid place entry
    lent_there new is_lent last some =
        let items : entries_of (fronts new) ++ inside.last.items ≡ slice_set (items_of inside) place entry =
        ap (λ (list : List Entry). list ++ inside.last.items) (ap (λ (all : List (VecDeque Entry Global)). entries_of all) is_lent ∙ lent_entries)
        ∙ sym (set-append_left (entries_of (fronts inside)) inside.last.items place entry some) in
        let room : length (entries_of (fronts new) ++ inside.last.items) + (deque_capacity inside.last - deque_len inside.last)
        ≡ length (items_of inside) + (deque_capacity inside.last - deque_len inside.last) = rw (items, length-set) refl in
        let memory : capacity_of (fronts new) ≡ capacity_of (fronts inside) =
        ap (λ (all : List (VecDeque Entry Global)). capacity_of all) is_lent
        ∙ capacity_there segment rest in_segment entry (deque_with_item segment rest entry) refl refl refl (fronts inside) index
        found.within is in
        rw (last, ← view) (λ k. record {
          items = items k;
          room = room k;
          capacity = memory k + deque_capacity inside.last;
        })

-- a place in a segment behind the first
module _ (inside : Inside) {laid : Laid} (view : laid_of inside ≡ laid) {place index rest : ℕ}
    (found : IsFoundIn (fronts inside) place index rest) (other : ¬ (index ≡ 0)) {segment : VecDeque Entry Global}
    (behind : segment ≡ get_or inside.more.items (index - 1) segment) where
  some : 0 < index
  some = omega (arith, other)

  is : segment ≡ get_or (fronts inside) index segment
  is = stands_behind inside.first inside.more.items index segment some behind

  pub in_more : rest < deque_len segment
  in_more = found.inner segment is

  pub one_in_more : {entry : Entry} → place < length laid.items → entry ≡ get_or segment.items rest entry →
      entry ≡ get_or laid.items place entry
  one_in_more = one_there inside view found is

  module _ (entry : Entry) where
    abbrev with_lent : Inside
    with_lent = record inside { more = deque_with_item inside.more (index - 1) (deque_with_item segment rest entry) }

    pub more_lent : AreLaid inside → AreLaid with_lent
    more_lent sound =
        let one = deque_with_item segment rest entry in
        let long = length-set inside.more.items (index - 1) one in record {
          front = record {
            full = full_there segment rest (in_segment inside view found is) entry one refl refl refl inside.more.items (index - 1)
                sound.front.full (omega (arith, found.within, some)) behind;
            none = λ nothing. (omega (arith, long, (sound.front.none nothing).0), (sound.front.none nothing).1);
            small = sound.front.small;
            few = omega (arith, long, sound.front.few);
          };
          room = sound.room;
          small = sound.small;
        }

    pub lent_more : place < length (entries_of (fronts inside)) → laid_of with_lent ≡ with_entry laid place entry
    lent_more =
        lent_there inside view found is entry with_lent
        (set_behind_first inside.first inside.more.items index (deque_with_item segment rest entry) some) refl
