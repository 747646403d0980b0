-- The order of the rows: those that are gone, those in line, those that no flush has reached; and the front.
use Rattle.ob_seq.proofs.Words.{◌≡◌, ◌+◌, ◌-◌, ℕ, zero, suc, Bool, true, false, List, [], ◌∷◌, ◌++◌, map, length, refl}
use Rattle.ob_seq.proofs.Words.{cond, ltb, arith, nat_tests, ◌⊎◌, inl, inr, fold, AllByRecursion, map-append}
use Rattle.ob_seq.proofs.Words.{append_assoc, append-nil, length-append, filter-append, Estimate, Cause, Command, Write}
use Rattle.ob_seq.proofs.Words.{Flush, Remove, RemoveWith, RemoveBytes, Progress, Cancel, FailFlushed, Close, UserBit}
use Rattle.ob_seq.proofs.Words.{SetMarks, Outcome, Success, Failed, Cancelled, Waiting, Fixed, Settled, cancelled}
use Rattle.ob_seq.proofs.Words.{effect, closed_row, failed_row, flushed_row, progressed_row, reached_row, rows_after}
use Rattle.ob_seq.proofs.Words.{skipped_row, taken_row, with_cancelled, with_first, with_first_behind, with_front}
use Rattle.ob_seq.proofs.Words.{whole_rows, bytes_left_over, is_in_line, line, Row, new_row, Unflushed, Flushed, Voided}
use Rattle.ob_seq.proofs.Words.{Gone, filter, Some, is_unflushed, front, unflushed, position_or_len}

-- the row is no longer in the buffer
pub record IsGone (row : Row) : Type 0 where
  pub place : row.place ≡ Gone

-- the row is flushed, and its promise fixed
pub record IsSent (row : Row) : Type 0 where
  pub place : row.place ≡ Flushed
  pub promise : row.promise ≡ Fixed

-- the row was voided at its flush, since its promise was cancelled
pub record IsVoid (row : Row) : Type 0 where
  pub place : row.place ≡ Voided
  pub promise : row.promise ≡ Settled Cancelled

-- the row stands in line
abbrev pub IsStanding : Row → Type 0
IsStanding row = IsSent row ⊎ IsVoid row

-- no flush has reached the row, and its promise waits or was cancelled
pub record IsFresh (row : Row) : Type 0 where
  pub place : row.place ≡ Unflushed
  pub promise : (row.promise ≡ Waiting) ⊎ (row.promise ≡ Settled Cancelled)

-- a row with its promise taken back
abbrev pub taken_back : Row → Row
taken_back row = record row { promise = cancelled row.promise }

-- rows in order: gone, standing in line, fresh
pub record Layout (rows : List Row) : Type 0 where
  pub gone : List Row
  pub standing : List Row
  pub fresh : List Row
  pub is : rows ≡ gone ++ (standing ++ fresh)
  pub all_gone : AllByRecursion IsGone gone
  pub all_standing : AllByRecursion IsStanding standing
  pub all_fresh : AllByRecursion IsFresh fresh

pub each_append : (P : Row → Type 0) (xs ys : List Row) → AllByRecursion P xs → AllByRecursion P ys →
    AllByRecursion P (xs ++ ys)
each_append P [] ys a b = b
each_append P (x ∷ xs) ys a b = (a.0, each_append P xs ys a.1 b)

pub gone_not_in_line : (row : Row) → IsGone row → is_in_line row ≡ false
gone_not_in_line row gone = grind arith

pub standing_in_line : (row : Row) → IsStanding row → is_in_line row ≡ true
standing_in_line row standing = grind arith

pub fresh_not_in_line : (row : Row) → IsFresh row → is_in_line row ≡ false
fresh_not_in_line row fresh = grind arith

-- rows of one kind that a change leaves alone
pub stay_by : (change : Row → Row) (P : Row → Type 0) (same : (row : Row) → P row → change row ≡ row)
    (rows : List Row) → AllByRecursion P rows → map change rows ≡ rows
stay_by change P same [] all = refl
stay_by change P same (row ∷ rows) all = rw (same row all.0, stay_by change P same rows all.1)

each_map : (change : Row → Row) (P Q : Row → Type 0) → ((row : Row) → P row → Q (change row)) → (rows : List Row) →
    AllByRecursion P rows → AllByRecursion Q (map change rows)
each_map change P Q turns [] all = tt
each_map change P Q turns (row ∷ rows) all = (turns row all.0, each_map change P Q turns rows all.1)

pub all_now_gone : (change : Row → Row) → ((row : Row) → (change row).place ≡ Gone) → (rows : List Row) →
    AllByRecursion IsGone (map change rows)
all_now_gone change goes [] = tt
all_now_gone change goes (row ∷ rows) = (record { place = goes row }, all_now_gone change goes rows)

module _ (change : Row → Row) where
  -- the front is behind the rows that are gone
  pub with_front_gone : (gone rows : List Row) → AllByRecursion IsGone gone →
      with_front change (gone ++ rows) ≡ gone ++ with_front change rows
  with_front_gone [] rows all = refl
  with_front_gone (row ∷ gone) rows all = rw (gone_not_in_line row all.0, with_front_gone gone rows all.1)

  -- fresh rows have no front
  pub with_front_fresh : (fresh : List Row) → AllByRecursion IsFresh fresh → with_front change fresh ≡ fresh
  with_front_fresh [] all = refl
  with_front_fresh (row ∷ fresh) all = rw (fresh_not_in_line row all.0, with_front_fresh fresh all.1)

  -- the first row in line is the front
  pub with_front_standing : (row : Row) (rows : List Row) → IsStanding row →
      with_front change (row ∷ rows) ≡ change row ∷ rows
  with_front_standing row rows standing = rw (standing_in_line row standing)

-- rows of one kind that a change takes to others
map_by : (change to : Row → Row) (P : Row → Type 0) (turns : (row : Row) → P row → change row ≡ to row)
    (rows : List Row) → AllByRecursion P rows → map change rows ≡ map to rows
map_by change to P turns [] all = refl
map_by change to P turns (row ∷ rows) all = rw (turns row all.0, map_by change to P turns rows all.1)

-- a fresh row that a flush reaches stands in line
pub reached_stands : (row : Row) → IsFresh row → IsStanding (reached_row row)
reached_stands row fresh = grind arith

-- a flush by the parts of the rows
pub flush_parts : (gone standing fresh : List Row) → AllByRecursion IsGone gone → AllByRecursion IsStanding standing →
    AllByRecursion IsFresh fresh →
    map flushed_row (gone ++ (standing ++ fresh)) ≡ gone ++ (standing ++ map reached_row fresh)
flush_parts gone standing fresh all_gone all_standing all_fresh =
    let first = stay_by flushed_row IsGone (λ row is. grind arith) gone all_gone in
    let next = stay_by flushed_row IsStanding (λ row is. grind arith) standing all_standing in
    let last = map_by flushed_row reached_row IsFresh (λ row is. grind arith) fresh all_fresh in
    rw (map-append flushed_row gone (standing ++ fresh), first, map-append flushed_row standing fresh, next, last)

-- all in line taken away as failed
pub failed_parts : (cause : Cause) (gone standing fresh : List Row) → AllByRecursion IsGone gone →
    AllByRecursion IsStanding standing → AllByRecursion IsFresh fresh →
    map (failed_row cause) (gone ++ (standing ++ fresh)) ≡ gone ++ (map (taken_row (Failed cause)) standing ++ fresh)
failed_parts cause gone standing fresh all_gone all_standing all_fresh =
    let change : Row → Row = failed_row cause in
    let taken : Row → Row = taken_row (Failed cause) in
    let first = stay_by change IsGone (λ row is. rw (gone_not_in_line row is)) gone all_gone in
    let next = map_by change taken IsStanding (λ row is. rw (standing_in_line row is)) standing all_standing in
    let last = stay_by change IsFresh (λ row is. rw (fresh_not_in_line row is)) fresh all_fresh in
    rw (map-append change gone (standing ++ fresh), first, map-append change standing fresh, next, last)

pub progressed_stands : (n : ℕ) (row : Row) → IsStanding row → IsStanding (progressed_row n row)
progressed_stands n row standing = grind arith

pub skipped_stands : (n : ℕ) (row : Row) → IsStanding row → IsStanding (skipped_row n row)
skipped_stands n row standing = grind arith

-- a row that is taken away as sent
abbrev pub sent : Row → Row
sent row = taken_row Success row

-- one more row before others counts if it stands in line
line_count : (before : List Row) (row : Row) →
    length (line (before ++ row ∷ [])) ≡ length (line before) + cond (is_in_line row) 1 0
line_count before row = rw (filter-append is_in_line before (row ∷ []), length-append) (grind arith)

-- the rows with the first `count` of the line sent, counted down
abbrev send : ℕ → List Row → List Row
send count [] = []
send zero (row ∷ rows) = row ∷ rows
send (suc count) (row ∷ rows) = cond (is_in_line row) (sent row ∷ send count rows) (row ∷ send (suc count) rows)

send_none : (rows : List Row) → send 0 rows ≡ rows
send_none [] = refl
send_none (row ∷ rows) = refl

first_behind : (count : ℕ) (before rows : List Row) (left : ℕ) → left ≡ count - length (line before) →
    with_first_behind count sent before rows ≡ send left rows
first_behind count before [] left is = refl
first_behind count before (row ∷ rows) left is =
    rw (first_behind count (before ++ row ∷ []) rows _ refl, line_count before row)
    (grind (arith, nat_tests, send_none))

first_is : (count : ℕ) (rows : List Row) → with_first count sent rows ≡ send count rows
first_is count rows = first_behind count [] rows count (omega arith)

-- no row sent changes nothing
pub first_none : (rows : List Row) → with_first 0 sent rows ≡ rows
first_none rows = rw (first_is 0 rows) (send_none rows)

send_more : (count : ℕ) (rows : List Row) → send (suc count) rows ≡ send count (with_front sent rows)
send_more count [] = refl
send_more count (row ∷ rows) = grind (arith, send_none, send_more count rows)

-- one more row sent is the front sent first
pub first_more : (count : ℕ) (rows : List Row) →
    with_first (suc count) sent rows ≡ with_first count sent (with_front sent rows)
first_more count rows = rw (first_is (suc count) rows, first_is count (with_front sent rows)) (send_more count rows)

-- rows by their parts
laid : {rows : List Row} (gone standing fresh : List Row) → rows ≡ gone ++ (standing ++ fresh) →
    AllByRecursion IsGone gone → AllByRecursion IsStanding standing → AllByRecursion IsFresh fresh → Layout rows
laid gone standing fresh is all_gone all_standing all_fresh = record {
  gone = gone;
  standing = standing;
  fresh = fresh;
  is = is;
  all_gone = all_gone;
  all_standing = all_standing;
  all_fresh = all_fresh;
}

-- a change of the front after which it is gone or still stands
front_layout : (change : Row → Row) → ((row : Row) → IsStanding row → IsGone (change row) ⊎ IsStanding (change row)) →
    (gone standing fresh : List Row) → AllByRecursion IsGone gone → AllByRecursion IsStanding standing →
    AllByRecursion IsFresh fresh → Layout (with_front change (gone ++ (standing ++ fresh)))
front_layout change turns gone [] fresh all_gone all_standing all_fresh =
    laid gone [] fresh (rw (with_front_gone change gone fresh all_gone, with_front_fresh change fresh all_fresh))
    all_gone tt all_fresh
front_layout change turns gone (row ∷ standing) fresh all_gone all_standing all_fresh =
    let rows = standing ++ fresh in
    let is : with_front change (gone ++ row ∷ rows) ≡ gone ++ change row ∷ rows =
    rw (with_front_gone change gone (row ∷ rows) all_gone, with_front_standing change row rows all_standing.0) in
    elim (turns row all_standing.0) [
      | inl away ↦ laid (gone ++ change row ∷ []) standing fresh (rw (is, append_assoc))
          (each_append IsGone gone (change row ∷ []) all_gone (away, tt)) all_standing.1 all_fresh
      | inr still ↦ laid gone (change row ∷ standing) fresh is all_gone (still, all_standing.1) all_fresh
    ]

-- a promise taken back in one of two parts
back_parts : (id : ℕ) (rows more : List Row) →
    (with_cancelled id (rows ++ more) ≡ with_cancelled id rows ++ more)
    ⊎ ((rest : ℕ) × (with_cancelled id (rows ++ more) ≡ rows ++ with_cancelled rest more))
back_parts id [] more = inr (id, refl)
back_parts zero (row ∷ rows) more = inl refl
back_parts (suc id) (row ∷ rows) more = elim (back_parts id rows more) [
  | inl first ↦ inl (rw first)
  | inr behind ↦ inr (behind.0, rw behind.1)
]

each_back : (P : Row → Type 0) → ((row : Row) → P row → P (taken_back row)) → (id : ℕ) (rows : List Row) →
    AllByRecursion P rows → AllByRecursion P (with_cancelled id rows)
each_back P back id [] all = tt
each_back P back zero (row ∷ rows) all = (back row all.0, all.1)
each_back P back (suc id) (row ∷ rows) all = (all.0, each_back P back id rows all.1)

module _ (rows : List Row) (layout : Layout rows) where
  open layout use {gone, standing, fresh, is, all_gone, all_standing, all_fresh}

  changed : (change : Row → Row) → ((row : Row) → IsStanding row → IsGone (change row) ⊎ IsStanding (change row)) →
      Layout (with_front change rows)
  changed change turns = rw is (front_layout change turns gone standing fresh all_gone all_standing all_fresh)

  taken : (outcome : Outcome) → Layout (with_front (taken_row outcome) rows)
  taken outcome = changed (taken_row outcome) (λ row standing. inl (record { place = refl }))

  back : (id : ℕ) → Layout (with_cancelled id rows)
  back id = elim (back_parts id gone (standing ++ fresh)) [
    | inl first ↦ laid (with_cancelled id gone) standing fresh (rw (is, first))
        (each_back IsGone (λ row away. record { place = away.place }) id gone all_gone) all_standing all_fresh
    | inr behind ↦ elim (back_parts behind.0 standing fresh) [
      | inl line ↦ laid gone (with_cancelled behind.0 standing) fresh (rw (is, behind.1, line)) all_gone
          (each_back IsStanding (λ row standing. grind arith) behind.0 standing all_standing) all_fresh
      | inr last ↦ laid gone standing (with_cancelled last.0 fresh) (rw (is, behind.1, last.1)) all_gone all_standing
          (each_back IsFresh (λ row fresh. grind arith) last.0 fresh all_fresh)
    ]
  ]

-- the first `count` rows in line sent
first_layout : (count : ℕ) (rows : List Row) → Layout rows → Layout (with_first count sent rows)
first_layout zero rows layout = rw (first_none rows) layout
first_layout (suc count) rows layout =
    rw (first_more count rows) (first_layout count (with_front sent rows) (taken rows layout Success))

-- each command keeps the order
effect_layout : (estimate : Estimate) (rows : List Row) (command : Command) → Layout rows →
    Layout (effect estimate rows command)
effect_layout estimate rows (Write message) l =
    let new = new_row estimate message ∷ [] in
    laid l.gone l.standing (l.fresh ++ new) (rw (l.is, append_assoc, append_assoc)) l.all_gone l.all_standing
    (each_append IsFresh l.fresh new l.all_fresh (record { place = refl; promise = inl refl }, tt))
effect_layout estimate rows Flush l =
    let reached = map reached_row l.fresh in
    laid l.gone (l.standing ++ reached) []
    (rw (l.is, flush_parts l.gone l.standing l.fresh l.all_gone l.all_standing l.all_fresh, append-nil)) l.all_gone
    (each_append IsStanding l.standing reached l.all_standing
    (each_map reached_row IsFresh IsStanding reached_stands l.fresh l.all_fresh)) tt
effect_layout estimate rows Remove l = taken rows l Success
effect_layout estimate rows (RemoveWith cause) l = taken rows l (Failed cause)
effect_layout estimate rows (RemoveBytes n) l =
    let left = bytes_left_over n rows in
    let after = with_first (whole_rows n rows) sent rows in
    let layout = first_layout (whole_rows n rows) rows l in
    elim (ltb 0 left) as (λ (some : Bool). Layout (cond some (with_front (skipped_row left) after) after)) [
      | true ↦ changed after layout (skipped_row left) (λ row standing. inr (skipped_stands left row standing))
      | false ↦ layout
    ]
effect_layout estimate rows (Progress n) l =
    changed rows l (progressed_row n) (λ row standing. inr (progressed_stands n row standing))
effect_layout estimate rows (Cancel id) l = back rows l id.0
effect_layout estimate rows (FailFlushed cause notify) l =
    let taken = map (taken_row (Failed cause)) l.standing in
    laid (l.gone ++ taken) [] l.fresh
    (rw (l.is, failed_parts cause l.gone l.standing l.fresh l.all_gone l.all_standing l.all_fresh, append_assoc))
    (each_append IsGone l.gone taken l.all_gone (all_now_gone (taken_row (Failed cause)) (λ row. refl) l.standing)) tt
    l.all_fresh
effect_layout estimate rows (Close cause) l =
    laid (map (closed_row cause) rows) [] [] (rw append-nil) (all_now_gone (closed_row cause) (λ row. refl) rows) tt tt
effect_layout estimate rows (UserBit index writable) l = l
effect_layout estimate rows (SetMarks marks) l = l

layout_along : (estimate : Estimate) (rows : List Row) (commands : List Command) → Layout rows →
    Layout (fold (effect estimate) rows commands)
layout_along estimate rows [] layout = layout
layout_along estimate rows (command ∷ commands) layout =
    layout_along estimate (effect estimate rows command) commands (effect_layout estimate rows command layout)

-- the rows of each history are in order
pub layout_of : (estimate : Estimate) (commands : List Command) → Layout (rows_after estimate commands)
layout_of estimate commands = layout_along estimate [] commands (laid [] [] [] refl tt tt tt)

-- a filter that each row passes, or none
filter_each : (kept : Bool) (P : Row → Type 0) (test : Row → Bool) → ((row : Row) → P row → test row ≡ kept) →
    (rows : List Row) → AllByRecursion P rows → filter test rows ≡ cond kept rows []
filter_each true P test alike [] all = refl
filter_each true P test alike (row ∷ rows) all = rw (alike row all.0, filter_each true P test alike rows all.1)
filter_each false P test alike [] all = refl
filter_each false P test alike (row ∷ rows) all = rw (alike row all.0, filter_each false P test alike rows all.1)

module _ (gone standing fresh : List Row) (all_gone : AllByRecursion IsGone gone)
    (all_standing : AllByRecursion IsStanding standing) (all_fresh : AllByRecursion IsFresh fresh) where
  -- the line is the standing rows
  pub line_of_parts : line (gone ++ (standing ++ fresh)) ≡ standing
  line_of_parts =
      let first = filter_each false IsGone is_in_line gone_not_in_line gone all_gone in
      let next = filter_each true IsStanding is_in_line standing_in_line standing all_standing in
      let last = filter_each false IsFresh is_in_line fresh_not_in_line fresh all_fresh in
      rw (filter-append is_in_line gone (standing ++ fresh), first, filter-append is_in_line standing fresh, next, last)
      (append-nil standing)

  -- what is unflushed is the fresh rows
  pub unflushed_of_parts : unflushed (gone ++ (standing ++ fresh)) ≡ fresh
  unflushed_of_parts =
      let test : Row → Bool = λ row. is_unflushed row.place in
      let first = filter_each false IsGone test (λ row is. grind arith) gone all_gone in
      let next = filter_each false IsStanding test (λ row is. grind arith) standing all_standing in
      let last = filter_each true IsFresh test (λ row is. grind arith) fresh all_fresh in
      rw (filter-append test gone (standing ++ fresh), first, filter-append test standing fresh, next, last)

-- the front is the first standing row
pub front_of_parts : (gone : List Row) (row : Row) (rows : List Row) → AllByRecursion IsGone gone → IsStanding row →
    front (gone ++ row ∷ rows) ≡ Some row
front_of_parts [] row rows all standing = rw (standing_in_line row standing)
front_of_parts (first ∷ gone) row rows all standing =
    rw (gone_not_in_line first all.0) (front_of_parts gone row rows all.1 standing)

-- and its index is how many are gone
pub index_of_parts : (gone : List Row) (row : Row) (rows : List Row) → AllByRecursion IsGone gone → IsStanding row →
    position_or_len is_in_line (gone ++ row ∷ rows) ≡ length gone
index_of_parts [] row rows all standing = rw (standing_in_line row standing)
index_of_parts (first ∷ gone) row rows all standing =
    let none = gone_not_in_line first all.0 in
    let rest = index_of_parts gone row rows all.1 standing in
    grind arith
