-- A flush, and the first rows in line taken away, one row after another.
use Rattle.ob_seq.proofs.Words.{arith, ◌≡◌, ℕ, suc, ◌-◌, true, List, [], ◌∷◌, ◌++◌, length, map, refl, sym, ap, ◌∙◌}
use Rattle.ob_seq.proofs.Words.{cond, append_assoc, append-nil, slice_set, nat_tests, map-append, length-map}
use Rattle.ob_seq.proofs.Words.{get_or-append_seam, set-append_seam, Marks, PromiseState, Fixed, entry_of, Row}
use Rattle.ob_seq.proofs.Words.{is_cancelled, counted_size, total, reached_row, Moment, moment_of, moments_along}
use Rattle.ob_seq.proofs.Words.{outcome_of, settlement, settlements_from, Pending, pending_total, first_size}
use Rattle.ob_seq.proofs.Words.{reached_entry, unflushed_id, next_flushed, times, word_after_fall, Bool, add-zero, ◌+◌}
use Rattle.ob_seq.proofs.Words.{AllByRecursion, Outcome, taken_row, with_first, front_taken, entry_settlement}
use Rattle.ob_seq.proofs.Words.{entry_settlements}
use Rattle.ob_seq.specs.Steps.Commands.{is_next_cancelled}
use Rattle.ob_seq.proofs.Inside.Held.{opening, Held, promise_of, unflushed_id_is, pending_total_is}
use Rattle.ob_seq.proofs.Word.{Past, word_from, word_from_more, word_step}
use Rattle.ob_seq.proofs.Rows.Order.{IsFresh, each_append, reached_stands, IsGone, IsStanding, all_now_gone, first_more}
use Rattle.ob_seq.proofs.Rows.Order.{first_none, sent, with_front_gone, with_front_standing}
use Rattle.ob_seq.proofs.Inside.Taken.{total_without, taken_held, taken_word}
use Rattle.ob_seq.proofs.Inside.Steps.{times_first}
use Rattle.ob_seq.proofs.Rows.Along.{moments_behind}

-- a row that a flush reaches as an entry, as a promise, and in the word
reached_entry_is : (row : Row) → IsFresh row →
    reached_entry (is_cancelled row.promise) (entry_of row) ≡ entry_of (reached_row row)
reached_entry_is row fresh = grind arith

promises_by : (row : Row) (before behind : List PromiseState) →
    cond (is_cancelled row.promise) (before ++ row.promise ∷ behind)
    (slice_set (before ++ row.promise ∷ behind) (length before) Fixed)
    ≡ before ++ (reached_row row).promise ∷ behind
promises_by row before behind = rw set-append_seam (grind arith)

-- the word after a fall if the row was voided, and else as it was
word_by : (row : Row) → IsFresh row → (marks : Marks) (word all sum : ℕ) →
    (is_cancelled row.promise ≡ true → sum ≡ all - counted_size row) →
    cond (is_cancelled row.promise) (word_after_fall marks word (counted_size row) (all - counted_size row)) word
    ≡ word_step true marks word (counted_size row) (counted_size (reached_row row)) sum
word_by row fresh marks word all sum voids = grind (arith, nat_tests)

module _ (buffer : Pending) (gone standing : List Row) (row : Row) (fresh : List Row)
    (held : Held buffer gone standing (row ∷ fresh)) where
  abbrev before : List PromiseState
  before = map promise_of (gone ++ standing)

  split : (one : Row) →
      map promise_of (gone ++ (standing ++ one ∷ fresh)) ≡ before ++ one.promise ∷ map promise_of fresh
  split one = rw (← append_assoc gone standing (one ∷ fresh), map-append promise_of (gone ++ standing) (one ∷ fresh))

  promises_are : buffer.promises ≡ before ++ row.promise ∷ map promise_of fresh
  promises_are = held.promises ∙ split row

  id_is : unflushed_id buffer ≡ length before
  id_is = unflushed_id_is buffer gone standing (row ∷ fresh) held ∙ sym (length-map (gone ++ standing) promise_of)

  back_is : is_next_cancelled buffer ≡ is_cancelled row.promise
  back_is = grind (arith, id_is, promises_are, get_or-append_seam, promise_of)

  -- what the buffer holds with one more row in line
  pub next_held : Held (next_flushed buffer) gone (standing ++ reached_row row ∷ []) fresh
  next_held =
      grind (
        arith,
        back_is,
        map-append,
        reached_entry_is,
        split,
        id_is,
        promises_are,
        append_assoc,
        promises_by,
        promise_of,
        each_append,
        reached_stands,
      )

  -- its word, after the moment of the row
  pub next_word : (past : Past) (moments : List Moment) → buffer.word ≡ word_from buffer.marks past moments →
      (next_flushed buffer).word ≡ word_from buffer.marks past (moments
      ++ moment_of true (counted_size row) (counted_size (reached_row row))
      (total ((gone ++ standing) ++ reached_row row ∷ fresh)))
  next_word past moments was =
      let size = counted_size row in
      let after = counted_size (reached_row row) in
      let sum = total ((gone ++ standing) ++ reached_row row ∷ fresh) in
      let all = total ((gone ++ standing) ++ row ∷ fresh) in
      let pending : pending_total buffer ≡ all =
      pending_total_is buffer gone standing (row ∷ fresh) held
      ∙ ap total (sym (append_assoc gone standing (row ∷ fresh))) in
      rw (back_is, pending, ap first_size held.unflushed)
      (word_by row held.all_fresh.0 buffer.marks buffer.word all sum (λ back.
      total_without (gone ++ standing) row (reached_row row) fresh (grind (arith, back)))
      ∙ rw was (sym (word_from_more true buffer.marks past moments size after sum)))

-- a flush of all fresh rows, one after another
pub all_reached : (fresh : List Row) (buffer : Pending) (gone standing : List Row) (past : Past) (moments : List Moment) →
    Held buffer gone standing fresh → buffer.word ≡ word_from buffer.marks past moments →
    (let after = times (length fresh) next_flushed buffer in
    Held after gone (standing ++ map reached_row fresh) []
    × (after.word ≡ word_from buffer.marks past
    (moments ++ moments_along true (gone ++ standing) fresh (map reached_row fresh)))
    × (opening after ≡ opening buffer) × (after.closed ≡ buffer.closed))
all_reached [] buffer gone standing past moments held word = (rw append-nil held, rw append-nil word, refl, refl)
all_reached (row ∷ fresh) buffer gone standing past moments held word =
    let reached = reached_row row in
    let sum = total ((gone ++ standing) ++ reached ∷ fresh) in
    let one = moment_of true (counted_size row) (counted_size reached) sum in
    let next = standing ++ reached ∷ [] in
    let rest = rw (times_first next_flushed (length fresh) buffer) at
    (all_reached fresh (next_flushed buffer) gone next past (moments ++ one)
    (next_held buffer gone standing row fresh held)
    (next_word buffer gone standing row fresh held past moments word)) in
    let more = moments_along true (gone ++ next) fresh (map reached_row fresh) in (
      rw append_assoc at rest.0,
      rest.1 ∙ rw (append_assoc moments one more, append_assoc gone standing (reached ∷ [])) refl,
      rest.2,
      rest.3,
    )

-- a flush settles nothing
settles_nothing : (id : ℕ) (row : Row) →
    settlement id (outcome_of row.promise) (outcome_of (reached_row row).promise) ≡ []
settles_nothing id row = grind arith

pub settlements_of_reached : (id : ℕ) (fresh : List Row) → settlements_from id fresh (map reached_row fresh) ≡ []
settlements_of_reached id [] = refl
settlements_of_reached id (row ∷ fresh) = rw (settles_nothing id row, settlements_of_reached (suc id) fresh)

-- the rows when the first in line are gone
pub with_first_sent : (first gone behind : List Row) → AllByRecursion IsGone gone → AllByRecursion IsStanding first →
    with_first (length first) sent (gone ++ (first ++ behind)) ≡ gone ++ (map sent first ++ behind)
with_first_sent [] gone behind all_gone all = first_none (gone ++ behind)
with_first_sent (row ∷ first) gone behind all_gone all =
    let away = each_append IsGone gone (sent row ∷ []) all_gone (record { place = refl }, tt) in
    let next = with_first_sent first (gone ++ sent row ∷ []) behind away all.1 in
    let rest = first ++ behind in
    rw (
      first_more (length first) (gone ++ row ∷ rest),
      with_front_gone sent gone (row ∷ rest) all_gone,
      with_front_standing sent row rest all.0,
    ) (rw (append_assoc, append_assoc) at next)

-- each of them is gone
pub all_taken_gone : (outcome : Outcome) (rows : List Row) → AllByRecursion IsGone (map (taken_row outcome) rows)
all_taken_gone outcome rows = all_now_gone (taken_row outcome) (λ row. refl) rows

-- what the buffer holds without them, and its word after their moments
pub all_taken : (notice : Bool) (outcome : Outcome) (first : List Row) (buffer : Pending) (gone rest fresh : List Row)
    (past : Past) (moments : List Moment) →
    Held buffer gone (first ++ rest) fresh → buffer.word ≡ word_from buffer.marks past moments →
    (let after = times (length first) (front_taken notice outcome) buffer in
    let now = map (taken_row outcome) first in
    Held after (gone ++ now) rest fresh
    × (after.word ≡ word_from buffer.marks past
    (moments ++ moments_along notice gone (first ++ (rest ++ fresh)) (now ++ (rest ++ fresh))))
    × (opening after ≡ opening buffer) × (after.closed ≡ buffer.closed))
all_taken notice outcome [] buffer gone rest fresh past moments held word =
    (rw append-nil held, rw (moments_behind notice gone (rest ++ fresh), append-nil) word, refl, refl)
all_taken notice outcome (row ∷ first) buffer gone rest fresh past moments held word =
    let taken = taken_row outcome row in
    let now = map (taken_row outcome) first in
    let one = moment_of notice (counted_size row) 0 (total (gone ++ taken ∷ ((first ++ rest) ++ fresh))) in
    let next_held = taken_held notice outcome buffer gone row (first ++ rest) fresh held in
    let next_word = taken_word notice outcome buffer gone row (first ++ rest) fresh held past moments word in
    let all = rw (times_first (front_taken notice outcome) (length first) buffer) at
    (all_taken notice outcome first (front_taken notice outcome buffer) (gone ++ taken ∷ []) rest fresh past
    (moments ++ one) next_held next_word) in
    let behind = first ++ (rest ++ fresh) in
    let more = moments_along notice (gone ++ taken ∷ []) behind (now ++ (rest ++ fresh)) in (
      rw append_assoc at all.0,
      all.1 ∙ rw (append_assoc moments one more, append_assoc first rest fresh) refl,
      all.2,
      all.3,
    )

-- moments behind them that are none
pub moments_of_sent : (first passed before after : List Row) →
    moments_along true (passed ++ map sent first) before after ≡ [] →
    moments_along true passed (first ++ before) (map sent first ++ after)
    ≡ moments_along true passed (first ++ before) (map sent first ++ before)
moments_of_sent [] passed before after none =
    rw append-nil at none ∙ sym (moments_behind true passed before)
moments_of_sent (row ∷ first) passed before after none =
    let rest = rw (← append_assoc passed (sent row ∷ []) (map sent first)) at none in
    rw (moments_of_sent first (passed ++ sent row ∷ []) before after rest)

-- what they settle, if nothing behind them is settled
pub settlements_of_taken : (outcome : Outcome) (id : ℕ) (first before after : List Row) →
    AllByRecursion IsStanding first → settlements_from (id + length first) before after ≡ [] →
    settlements_from id (first ++ before) (map (taken_row outcome) first ++ after)
    ≡ entry_settlements outcome id (map entry_of first)
settlements_of_taken outcome id [] before after all none = rw add-zero at none
settlements_of_taken outcome id (row ∷ first) before after all none =
    let next : id + length (row ∷ first) ≡ suc id + length first = omega arith in
    let one : settlement id (outcome_of row.promise) (outcome_of (taken_row outcome row).promise)
    ≡ entry_settlement outcome id (entry_of row) = grind (arith, all.0) in
    rw (one, settlements_of_taken outcome (suc id) first before after all.1 (rw next at none))
