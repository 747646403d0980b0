-- A buffer whose front is taken away, or loses bytes: rows and entries change alike.
use Rattle.std.proofs.Math.Seq.{drop-nil}
use Rattle.std.proofs.lemmas.List.{drop-drop}
use Rattle.ob_seq.proofs.Words.{◌≡◌, ◌-◌, Bool, List, [], ◌∷◌, ◌++◌, length, map, drop, refl, sym, ap, ◌∙◌, cond}
use Rattle.ob_seq.proofs.Words.{append_assoc, arith, slice_set, nat_tests, map-append, length-map, sum_by-append}
use Rattle.ob_seq.proofs.Words.{sum_by-cons, set-append_seam, Settled, Outcome, PromiseState, Row, is_voided}
use Rattle.ob_seq.proofs.Words.{counted_size, total, taken_row, Moment, moment_of, Pending, first_size, front_taken, ℕ}
use Rattle.ob_seq.proofs.Words.{true, ltb, AllByRecursion, entry_of, skipped_row, with_skipped, moments_along}
use Rattle.ob_seq.proofs.Words.{settlements_from, first_changed, front_changed}
use Rattle.ob_seq.specs.Steps.Step.{is_first_voided}
use Rattle.ob_seq.proofs.Inside.Held.{Held, promise_of, front_id_is, pending_total_is, opening}
use Rattle.ob_seq.proofs.Word.{Past, word_from, word_from_more}
use Rattle.ob_seq.proofs.Rows.Order.{IsStanding, IsGone, each_append, IsFresh, skipped_stands, with_front_gone}
use Rattle.ob_seq.proofs.Rows.Order.{with_front_standing, with_front_fresh}
use Rattle.ob_seq.specs.Steps.Commands.{front_skipped, skipped_entry}
use Rattle.ob_seq.proofs.Rows.Along.{moments_behind, settlements_behind}

-- the bytes pending without one row
pub total_without : (rows : List Row) (was row : Row) (behind : List Row) → counted_size row ≡ 0 →
    total (rows ++ row ∷ behind) ≡ total (rows ++ was ∷ behind) - counted_size was
total_without rows was row behind nothing =
    let after = sum_by-append counted_size rows (row ∷ behind) in
    let before = sum_by-append counted_size rows (was ∷ behind) in
    omega (arith, sum_by-cons counted_size row behind, sum_by-cons counted_size was behind)

-- the promises with that of the front settled, unless it was voided
promises_by : (row : Row) (outcome : Outcome) (before behind : List PromiseState) → IsStanding row →
    cond (is_voided row.place) (before ++ row.promise ∷ behind)
    (slice_set (before ++ row.promise ∷ behind) (length before) (Settled outcome))
    ≡ before ++ (taken_row outcome row).promise ∷ behind
promises_by row outcome before behind standing = rw set-append_seam (grind arith)

module _ (notice : Bool) (outcome : Outcome) (buffer : Pending) (gone : List Row) (row : Row)
    (standing fresh : List Row) (held : Held buffer gone (row ∷ standing) fresh) where
  abbrev taken : Row
  taken = taken_row outcome row

  -- what the buffer holds without its front
  pub taken_held : Held (front_taken notice outcome buffer) (gone ++ taken ∷ []) standing fresh
  taken_held =
      let before = map promise_of gone in
      let behind = map promise_of (standing ++ fresh) in
      let id = front_id_is buffer gone (row ∷ standing) fresh held ∙ sym (length-map gone promise_of) in
      let was : buffer.promises ≡ before ++ row.promise ∷ behind =
      held.promises ∙ map-append promise_of gone (row ∷ (standing ++ fresh)) in
      let all = append_assoc gone (taken ∷ []) (standing ++ fresh) in
      let promises : (front_taken notice outcome buffer).promises
      ≡ map promise_of ((gone ++ taken ∷ []) ++ (standing ++ fresh)) =
      rw (id, ap is_first_voided held.line, was, all, map-append promise_of gone (taken ∷ (standing ++ fresh)))
      (promises_by row outcome before behind held.all_standing.0) in
      let line = ap (drop 1) held.line in
      let all_gone = each_append IsGone gone (taken ∷ []) held.all_gone (record { place = refl }, tt) in
      assumption (held, line, promises, all_gone)

  -- its word, after the moment of the removal
  pub taken_word : (past : Past) (moments : List Moment) → buffer.word ≡ word_from buffer.marks past moments →
      (front_taken notice outcome buffer).word ≡ word_from buffer.marks past
      (moments ++ moment_of notice (counted_size row) 0 (total (gone ++ taken ∷ (standing ++ fresh))))
  taken_word past moments was =
      let without = total_without gone row taken (standing ++ fresh) refl in
      rw (pending_total_is buffer gone (row ∷ standing) fresh held, ap first_size held.line, ← without, was)
      (rw (word_from_more notice buffer.marks past moments) (grind (arith, nat_tests)))

-- a skipped row is a skipped entry
skipped_entry_is : (n : ℕ) (row : Row) → skipped_entry n (entry_of row) ≡ entry_of (skipped_row n row)
skipped_entry_is n row = grind (arith, drop-nil, drop-drop)

-- the first of some rows, with *n* more bytes skipped
abbrev first_skipped : ℕ → List Row → List Row
first_skipped n [] = []
first_skipped n (row ∷ rows) = skipped_row n row ∷ rows

-- some rows when bytes are skipped in the first of them, and the same if that is none
abbrev pub rows_skipped : ℕ → List Row → List Row
rows_skipped n rows = cond (ltb 0 n) (first_skipped n rows) rows

module _ (n : ℕ) (gone fresh : List Row) (all_gone : AllByRecursion IsGone gone)
    (all_fresh : AllByRecursion IsFresh fresh) where
  -- the rows of which the front is skipped
  pub with_skipped_is : (rest : List Row) → AllByRecursion IsStanding rest →
      with_skipped n (gone ++ (rest ++ fresh)) ≡ gone ++ (rows_skipped n rest ++ fresh)
  with_skipped_is [] all =
      let past = with_front_gone (skipped_row n) gone fresh all_gone in
      let none = with_front_fresh (skipped_row n) fresh all_fresh in
      grind arith
  with_skipped_is (row ∷ rest) all =
      let past = with_front_gone (skipped_row n) gone (row ∷ (rest ++ fresh)) all_gone in
      let front = with_front_standing (skipped_row n) row (rest ++ fresh) all.0 in
      grind arith

-- no count changes, and no promise
pub moments_of_skipped : (n : ℕ) (passed rest fresh : List Row) →
    moments_along true passed (rest ++ fresh) (rows_skipped n rest ++ fresh) ≡ []
moments_of_skipped n passed [] fresh = let none = moments_behind true passed fresh in grind arith
moments_of_skipped n passed (row ∷ rest) fresh =
    let some = moments_behind true (passed ++ skipped_row n row ∷ []) (rest ++ fresh) in
    let none = moments_behind true passed (row ∷ (rest ++ fresh)) in
    grind (arith, nat_tests)

pub settlements_of_skipped : (n id : ℕ) (rest fresh : List Row) →
    settlements_from id (rest ++ fresh) (rows_skipped n rest ++ fresh) ≡ []
settlements_of_skipped n id [] fresh = let none = settlements_behind id fresh in grind arith
settlements_of_skipped n id (row ∷ rest) fresh =
    let none = settlements_behind id (row ∷ (rest ++ fresh)) in grind arith

-- what the buffer holds
pub skipped_held : (n : ℕ) (buffer : Pending) (gone rest fresh : List Row) → Held buffer gone rest fresh →
    Held (front_skipped n buffer) gone (rows_skipped n rest) fresh
skipped_held n buffer gone [] fresh held =
    let first : Held (front_changed (skipped_entry n) buffer) gone [] fresh =
    assumption (held, ap (first_changed (skipped_entry n)) held.line) in
    grind arith
skipped_held n buffer gone (row ∷ rest) fresh held =
    let next = skipped_row n row in
    let line : first_changed (skipped_entry n) buffer.line ≡ map entry_of (next ∷ rest) =
    rw (held.line, skipped_entry_is n row) in
    let promises : buffer.promises ≡ map promise_of (gone ++ next ∷ (rest ++ fresh)) =
    rw (map-append promise_of gone (next ∷ (rest ++ fresh)))
    (held.promises ∙ map-append promise_of gone (row ∷ (rest ++ fresh))) in
    let first : Held (front_changed (skipped_entry n) buffer) gone (next ∷ rest) fresh =
    assumption (held, line, promises, skipped_stands n row held.all_standing.0) in
    grind arith

-- all else stays
pub skipped_opening : (n : ℕ) (buffer : Pending) → opening (front_skipped n buffer) ≡ opening buffer
skipped_opening n buffer = grind arith

pub skipped_same : (n : ℕ) (buffer : Pending) →
    (front_skipped n buffer).word ≡ buffer.word × (front_skipped n buffer).closed ≡ buffer.closed
skipped_same n buffer = grind arith
