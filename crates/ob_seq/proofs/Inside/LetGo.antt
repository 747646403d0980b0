-- What entries settle that are taken away, how messages end that leave one after the other, and that a call which lets
-- several go makes its step.
use Rattle.std.proofs.Common.{add-one}
use Rattle.std.proofs.lemmas.List.{nil_from_length, length-take, take-append-le, take-take, drop_more, get_or-map, get_or-drop, get_or-take}
use Rattle.std.proofs.lemmas.List.Sums.{count_by-le-length}
use Rattle.std.specs.Prelude.{replicate, Ok}
use Rattle.ob_types.specs.declared.refusal.Refusal.TheVariants.{FlushedLeft}
use Rattle.ob_seq.proofs.Words.{◌≡◌, ℕ, suc, ◌+◌, ◌<◌, Bool, not, List, [], ◌∷◌, ◌++◌, length, take, drop, get_or, sym}
use Rattle.ob_seq.proofs.Words.{◌∙◌, ap, cond, append_assoc, append-nil, length-append, add-zero, arith, count_by}
use Rattle.ob_seq.proofs.Words.{length-take-le, take_more, take-append-drop, sum_by-cons, PromiseId, Outcome}
use Rattle.ob_seq.proofs.Words.{PendingEntry, entry_settlement, entry_settlements, ◌≤◌, refl, map, map-append}
use Rattle.ob_seq.proofs.Words.{length-map, take_all, Cause, Entry, Failed, failures, front_id, pending_entries}
use Rattle.ob_seq.proofs.Words.{pending_entry, unflushed_id, unreached_entry, Pending, Unsent, waiting_count}
use Rattle.ob_seq.proofs.Words.{waiting_state, whole, false, ended, Block, Cancelled, if◌then◌else◌, true, take-map}
use Rattle.ob_seq.proofs.Words.{nat_tests, Option, Some, None, Cut, Count, Refusal, Success, TooManyBytes, bytes_in}
use Rattle.ob_seq.proofs.Words.{blocks_left, change_between, closed_pending, cut_of, failing_step, front_taken, ltb}
use Rattle.ob_seq.proofs.Words.{times, whole_cut, ◌-◌, zero, Marks, Settings, counted, sum_by-append, word_after_fall}
use Rattle.ob_seq.proofs.Inside.States.{kept_taken, unsent_from}
use Rattle.ob_seq.specs.Unsent.{all_entries}
use Rattle.ob_seq.proofs.Inside.Rooms.{fresh_states, front_id_there, promises_there}
use Rattle.ob_seq.specs.Steps.Step.{is_first_voided, Makes, with_mark}
use Rattle.ob_seq.specs.Steps.Commands.{bytes_reply, bytes_step, closing_step}
use Rattle.ob_seq.specs.Kept.{LetsGo}
use Rattle.ob_seq.specs.Outcomes.{Endings}
use Rattle.ob_seq.specs.Steps.Within.{TakesCut, TakesFirst}
use Rattle.ob_seq.proofs.Inside.Steps.{makes_taken, nothing_turned}
use Rattle.ob_seq.proofs.Rows.History.{reply_from, same_reply}

-- a list settles what each of its elements does, if their ids go on from a first one
pub record SettlesEach {A : Type 0} (one : ℕ → A → List (PromiseId × Outcome))
    (all : ℕ → List A → List (PromiseId × Outcome)) : Type 0 where
  pub none : (id : ℕ) → all id [] ≡ []
  pub more : (id : ℕ) (x : A) (xs : List A) → all id (x ∷ xs) ≡ one id x ++ all (suc id) xs

module _ {A : Type 0} {one : ℕ → A → List (PromiseId × Outcome)} {all : ℕ → List A → List (PromiseId × Outcome)}
    (is : SettlesEach one all) where
  append : (id : ℕ) (xs ys : List A) → all id (xs ++ ys) ≡ all id xs ++ all (id + length xs) ys
  append id [] ys = rw (is.none id, add-zero)
  append id (x ∷ xs) ys =
      let next : id + length (x ∷ xs) ≡ suc id + length xs = omega arith in
      rw (is.more id x (xs ++ ys), is.more id x xs, append (suc id) xs ys, next, append_assoc)

  -- with one element more
  pub settled_more : (id : ℕ) (xs : List A) (i : ℕ) (x d : A) → i < length xs → x ≡ get_or xs i d →
      all id (take (i + 1) xs) ≡ all id (take i xs) ++ one (id + i) x
  settled_more id xs i x d inside read =
      let size = length-take-le i xs (omega arith) in
      rw (take_more xs i d inside, ← read, append id (take i xs) (x ∷ []), size, is.more (id + i) x [])
      (rw (is.none (suc (id + i)), append-nil (one (id + i) x)))

  -- fewer elements settle fewer promises, if one that is left out settles one
  pub settled_room : (id : ℕ) (xs : List A) (i m : ℕ) (x d : A) → i < m → i < length xs → x ≡ get_or xs i d →
      length (one (id + i) x) ≡ 1 → length (all id (take i xs)) < length (all id (take m xs))
  settled_room id xs i m x d before inside read single =
      let more = settled_more id xs i x d inside read in
      let first = take (i + 1) (take m xs) in
      let behind = drop (i + 1) (take m xs) in
      let whole = rw take-append-drop at (append id first behind) in
      let fewer = take-take (i + 1) m xs (omega arith) in
      let both = rw fewer at (ap length whole ∙ length-append (all id first) (all (id + length first) behind)) in
      omega (arith, ap length more, length-append (all id (take i xs)) (one (id + i) x))

  -- as many promises as elements that settle theirs
  pub settled_count : (test : A → Bool) → ((id : ℕ) (x : A) → length (one id x) ≡ cond (test x) 1 0) → (id : ℕ)
      (xs : List A) → length (all id xs) ≡ count_by test xs
  settled_count test each id [] = rw (is.none id)
  settled_count test each id (x ∷ xs) =
      rw (is.more id x xs, length-append (one id x) (all (suc id) xs), each id x, settled_count test each (suc id) xs)
      (sym (sum_by-cons (λ y. cond (test y) 1 0) x xs))

pub entries_settle : (outcome : Outcome) → SettlesEach (entry_settlement outcome) (entry_settlements outcome)
entries_settle outcome = assumption

-- as many promises as entries that were not voided
pub count_of_settlements : (outcome : Outcome) (id : ℕ) (entries : List PendingEntry) →
    length (entry_settlements outcome id entries) ≡ count_by (λ entry. not entry.voided) entries
count_of_settlements outcome =
    settled_count (entries_settle outcome) (λ (entry : PendingEntry). not entry.voided) (λ id entry. grind arith)

-- all that wait
pub all_wait : (unsent : Unsent) → length (all_entries unsent) ≡ waiting_count unsent
all_wait unsent =
    length-map (unsent.line ++ unsent.unflushed) pending_entry ∙ length-append unsent.line unsent.unflushed

-- what waits settles as failed what a close does
waiting_settle : (cause : Cause) (id : ℕ) (entries : List Entry) →
    entry_settlements (Failed cause) id (pending_entries entries) ≡ failures cause id (map waiting_state entries)
waiting_settle cause id [] = refl
waiting_settle cause id (entry ∷ entries) = let more = waiting_settle cause (suc id) entries in grind arith

module _ (gone : List Outcome) (unsent : Unsent) {now : Pending} (view : whole gone unsent ≡ now) {first : ℕ}
    (begins : first ≡ length gone) where
  -- the first in line are the first of all
  pub in_line : (count : ℕ) → count ≤ length now.line → take count (all_entries unsent) ≡ take count now.line
  in_line count few = grind (arith, map-append, take-append-le)

  -- so they settle what the line does
  pub line_settles : (outcome : Outcome) (count : ℕ) → count ≤ length now.line →
      entry_settlements outcome first (take count (all_entries unsent))
      ≡ entry_settlements outcome (front_id now) (take count now.line)
  line_settles outcome count few =
      rw (in_line count few, begins, ← front_id_there gone unsent) (ap (λ (one : Pending). entry_settlements outcome (front_id one) (take count now.line)) view)

  -- and all settle what a close does, if nothing is in line
  pub all_settle : (cause : Cause) {count : ℕ} → count ≡ waiting_count unsent → length now.line ≡ 0 →
      entry_settlements (Failed cause) first (take count (all_entries unsent))
      ≡ failures cause (unflushed_id now) (drop (unflushed_id now) now.promises)
  all_settle cause {count} all empty =
      let fresh = unsent.unflushed in
      let seen = length-map unsent.line pending_entry in
      let none : unsent.line ≡ [] =
      nil_from_length unsent.line (omega (arith, seen, empty, ap (λ (one : Pending). length one.line) view)) in
      let id : first ≡ unflushed_id (whole gone unsent) =
      omega (arith, begins, promises_there gone unsent, length-map fresh unreached_entry, ap (λ (line : List Entry). length line) none) in
      rw (take_all count (all_entries unsent) (omega (arith, all, all_wait unsent)), ← view, fresh_states gone unsent, ← id, none)
      (waiting_settle cause first fresh)

-- what is read past the last entry
pub no_entry : Entry
no_entry = record { message = Block []; progress = 0; size = 0; taken_back = false }

-- whether an entry was taken back, as a contract sees it
pub taken_back_at : (entries : List Entry) (place : ℕ) → place < length entries →
    (get_or (pending_entries entries) place (pending_entry no_entry)).voided ≡ (get_or entries place no_entry).taken_back
taken_back_at entries place within =
    ap (λ (one : PendingEntry). one.voided) (get_or-map pending_entry entries place no_entry (pending_entry no_entry) within)

-- one more outcome
pub one_more : (outcome : Outcome) (before : List Outcome) (entries : List Entry) (place : ℕ) (one : Outcome) →
    place < length entries → one ≡ ended outcome (get_or entries place no_entry) →
    (before ++ map (ended outcome) (take place entries)) ++ one ∷ [] ≡ before ++ map (ended outcome) (take (place + 1) entries)
one_more outcome before entries place one within is =
    let entry = get_or entries place no_entry in
    rw (take_more entries place no_entry within, map-append (ended outcome) (take place entries) (entry ∷ []), is, append_assoc)

-- how a promise ends, by whether the removal settles it
pub ends_as : (flag : Bool) (outcome : Outcome) →
    (if not flag then outcome else Cancelled) ≡ (if flag then Cancelled else outcome)
ends_as flag outcome = grind arith

-- how the front ends, if some were taken away before it
pub front_ends : (outcome : Outcome) (line now : List Entry) (count : ℕ) (settles : Bool) → count < length line →
    pending_entries now ≡ drop count (pending_entries line) → settles ≡ not (is_first_voided (pending_entries now)) →
    (if settles then outcome else Cancelled) ≡ ended outcome (get_or line count no_entry)
front_ends outcome line now count settles within left is =
    let first = drop_more (pending_entries line) count (pending_entry no_entry)
    (omega (arith, within, length-map line pending_entry)) in
    rw (is, left, first, taken_back_at line count within) (ends_as (get_or line count no_entry).taken_back outcome)

-- the word once the pending bytes fell from one sum to another, with notice or without
abbrev pub word_fallen : Marks → Bool → ℕ → ℕ → ℕ → ℕ
word_fallen marks notice word from to = cond notice (word_after_fall marks word (from - to) to) word

-- a clear mark is not cleared
still_clear : (word : ℕ) → with_mark false (with_mark false word) ≡ with_mark false word
still_clear word = omega arith

-- a fall in two steps turns it as one does
falls_on : (marks : Marks) (notice : Bool) (word from between size : ℕ) → between ≤ from → size ≤ between →
    word_fallen marks notice word from (between - size)
    ≡ cond notice (word_after_fall marks (word_fallen marks notice word from between) size (between - size))
    (word_fallen marks notice word from between)
falls_on marks false word from between size less some = refl
falls_on marks true word from between size less some = grind (arith, nat_tests, still_clear, less, some)

-- one more is taken off the line, after *n* of them: what was first there, by the entry and those behind it that are left
module _ (settings : Settings) (marks : Marks) (closed notice : Bool) (first items : List Entry) (flushed n : ℕ)
    (entry : Entry) (word word' : ℕ) (before : n < flushed) (is : drop n first ≡ entry ∷ items)
    (falls : word' ≡ cond notice (word_after_fall marks word entry.size (counted (entry ∷ items) - entry.size)) word) where
  -- it is the one at that place
  at_place : entry ≡ get_or (take flushed first) n no_entry
  at_place =
      sym (ap (λ (left : List Entry). get_or left 0 no_entry) is)
      ∙ get_or-drop n first 0 no_entry ∙ rw (add-zero) (sym (get_or-take flushed first n no_entry before))

  one_more_taken : (gone : List Outcome) (outcome : Outcome) (old : Pending) → n < length (take flushed first) →
      whole (gone ++ map (ended outcome) (take n (take flushed first)))
      (unsent_from settings marks closed (take (flushed - n) (entry ∷ items)) (drop (flushed - n) (entry ∷ items)) word)
      ≡ times n (front_taken notice outcome) old →
      whole (gone ++ map (ended outcome) (take (n + 1) (take flushed first)))
      (unsent_from settings marks closed (take (flushed - (n + 1)) items) (drop (flushed - (n + 1)) items) word')
      ≡ times (n + 1) (front_taken notice outcome) old
  one_more_taken gone outcome old within so_far =
      let some : 0 < flushed - n = omega (arith, before) in
      let next : flushed - (n + 1) ≡ flushed - n - 1 = omega arith in
      let left = one_more outcome gone (take flushed first) n (ended outcome entry) within (ap (ended outcome) at_place) in
      rw (← left, next, add-one)
      (kept_taken (gone ++ map (ended outcome) (take n (take flushed first))) settings marks closed notice outcome entry items
      (flushed - n) word word' some falls ∙ ap (front_taken notice outcome) so_far)

-- what falls with the first of some entries is what they count, and what is left counts the rest
pub counted_parts : (n : ℕ) (entries : List Entry) → counted (take n entries) + counted (drop n entries) ≡ counted entries
counted_parts n entries =
    sym (sum_by-append (λ (one : Entry). one.size) (take n entries) (drop n entries)) ∙ ap counted (take-append-drop n entries)

-- several are taken off the line, one after the other
module _ (settings : Settings) (marks : Marks) (closed notice : Bool) (first : List Entry) (flushed word : ℕ)
    (gone : List Outcome) (outcome : Outcome) where
  abbrev word_after : ℕ → ℕ
  word_after n = word_fallen marks notice word (counted first) (counted (drop n first))

  abbrev pub left_behind : ℕ → Unsent
  left_behind n =
      unsent_from settings marks closed (take (flushed - n) (drop n first)) (drop (flushed - n) (drop n first)) (word_after n)

  pub all_taken : (n : ℕ) → n ≤ length (take flushed first) →
      whole (gone ++ map (ended outcome) (take n (take flushed first))) (left_behind n)
      ≡ times n (front_taken notice outcome)
      (whole gone (unsent_from settings marks closed (take flushed first) (drop flushed first) word))
  all_taken zero few = grind (arith, append-nil, nat_tests)
  all_taken (suc n) few =
      let entry = get_or first n no_entry in
      let items = drop (n + 1) first in
      let line : n < flushed = omega (arith, few, length-take flushed first) in
      let within : n < length first = omega (arith, few, length-take flushed first) in
      let is : drop n first ≡ entry ∷ items = drop_more first n no_entry within in
      let all : counted (drop n first) ≡ counted (entry ∷ items) = ap counted is in
      let sum = sum_by-cons (λ (one : Entry). one.size) entry items in
      let less : counted (entry ∷ items) ≤ counted first = omega (arith, all, counted_parts n first) in
      let some : entry.size ≤ counted (entry ∷ items) = omega (arith, sum) in
      let left : counted items ≡ counted (entry ∷ items) - entry.size = omega (arith, sum) in
      let falls = ap (λ (total : ℕ). word_fallen marks notice word (counted first) total) left
      ∙ falls_on marks notice word (counted first) (counted (entry ∷ items)) entry.size less some in
      rw add-one at (one_more_taken settings marks closed notice first items flushed n entry
      (word_fallen marks notice word (counted first) (counted (entry ∷ items))) (word_after (n + 1)) line is falls gone outcome
      (whole gone (unsent_from settings marks closed (take flushed first) (drop flushed first) word)) (omega (arith, few))
      (rw is at (all_taken n (omega (arith, few)))))

-- what stands in line leaves first
pub first_in_line : (outcome : Outcome) (count : ℕ) (line unflushed : List Entry) → count ≤ length line →
    map (ended outcome) (take count (line ++ unflushed)) ≡ map (ended outcome) (take count line)
first_in_line outcome count line unflushed few =
    ap (λ (some : List Entry). map (ended outcome) some) (take-append-le count line unflushed few)

-- and if nothing does, what no flush has reached
pub all_unflushed : (outcome : Outcome) (count : ℕ) (line unflushed : List Entry) → length line ≡ 0 →
    count ≡ length line + length unflushed →
    map (ended outcome) (take count (line ++ unflushed)) ≡ map (ended outcome) unflushed
all_unflushed outcome count line unflushed none all = grind (arith, nil_from_length, take_all)

-- an entry was not taken back if as many were not as there are
all_but : (flag : Bool) (rest count : ℕ) → cond (not flag) 1 0 + rest ≡ suc count → rest ≤ count →
    (flag ≡ false) × (rest ≡ count)
all_but true rest count all few = absurd (omega (arith, all, few))
all_but false rest count all few = (refl, omega (arith, all))

-- so all end alike
all_end : (outcome : Outcome) (entries : List Entry) →
    count_by (λ (entry : PendingEntry). not entry.voided) (pending_entries entries) ≡ length entries →
    map (ended outcome) entries ≡ replicate (length entries) outcome
all_end outcome [] all = refl
all_end outcome (entry ∷ entries) all =
    let kept : PendingEntry → Bool = λ one. not one.voided in
    let few = count_by-le-length kept (pending_entries entries) in
    let first = sum_by-cons (λ (one : PendingEntry). cond (kept one) 1 0) (pending_entry entry) (pending_entries entries) in
    let rest = all_but entry.taken_back (count_by kept (pending_entries entries)) (length entries) (sym first ∙ all)
    (omega (arith, few, length-map entries pending_entry)) in
    rw (rest.0, all_end outcome entries rest.1) refl

pub first_end : (outcome : Outcome) (count : ℕ) (entries : List Entry) → count ≤ length entries →
    count_by (λ (entry : PendingEntry). not entry.voided) (take count (pending_entries entries)) ≡ count →
    map (ended outcome) (take count entries) ≡ replicate count outcome
first_end outcome count entries few all = grind (arith, length-take-le, take-map, all_end)

by_none : (few : Bool) (one : Cut) → (let found : Option Cut = cond few None (Some one) in None ≡ found) →
    (let refusal : Option Refusal = cond few (Some TooManyBytes) None in refusal ≡ Some TooManyBytes)
by_none few one none = grind arith

by_found : (few : Bool) (one cut : Cut) → (let found : Option Cut = cond few None (Some one) in Some cut ≡ found) →
    (let refusal : Option Refusal = cond few (Some TooManyBytes) None in refusal ≡ None) × (cut ≡ one)
by_found few one cut some = grind arith

-- a removal of bytes that finds no cut, and one that does
pub no_cut : (n : ℕ) (now : Pending) → None ≡ cut_of n (blocks_left now.line) →
    (bytes_step n now).refusal ≡ Some TooManyBytes
no_cut n now none = by_none (ltb (bytes_in (blocks_left now.line)) n) (whole_cut n (blocks_left now.line)) none

pub a_cut : (n : ℕ) (now : Pending) {cut : Cut} → Some cut ≡ cut_of n (blocks_left now.line) →
    ((bytes_step n now).refusal ≡ None) × (cut ≡ whole_cut n (blocks_left now.line))
a_cut n now {cut} some =
    by_found (ltb (bytes_in (blocks_left now.line)) n) (whole_cut n (blocks_left now.line)) cut some

-- a close with something in line, and with nothing
pub flushed_left : (cause : Cause) (now : Pending) → 0 < length now.line →
    (closing_step cause now).refusal ≡ Some FlushedLeft
flushed_left cause now some = let test : ltb 0 (length now.line) ≡ true = grind (arith, nat_tests) in rw test refl

pub none_left : (cause : Cause) (now : Pending) → length now.line ≡ 0 → (closing_step cause now).refusal ≡ None
none_left cause now none = let test : ltb 0 (length now.line) ≡ false = grind (arith, nat_tests) in rw test refl

module _ (gone : List Outcome) (old : Unsent) where
  abbrev now : Pending
  now = whole gone old

  in_line_settle : (outcome : Outcome) (count : ℕ) → count ≤ length old.line →
      entry_settlements outcome (length gone) (take count (all_entries old))
      ≡ entry_settlements outcome (front_id now) (take count now.line)
  in_line_settle outcome count few =
      line_settles gone old refl refl outcome count (omega (arith, few, length-map old.line pending_entry))

  -- what is settled if all in line fail, if bytes are removed, and if all that wait fail while nothing is in line
  pub failing_settles : (cause : Cause) (notice : Bool) {count : ℕ} → count ≡ length old.line →
      entry_settlements (Failed cause) (length gone) (take count (all_entries old))
      ≡ (failing_step cause notice now).reply.settled
  failing_settles cause notice {count} all = grind (arith, in_line_settle, take_all, length-map)

  pub removal_settles : (n : ℕ) {cut : Cut} → Some cut ≡ cut_of n (blocks_left now.line) → cut.whole ≤ length old.line →
      entry_settlements Success (length gone) (take cut.whole (all_entries old)) ≡ (bytes_step n now).reply.settled
  removal_settles n {cut} found few =
      in_line_settle Success cut.whole few ∙ ap (λ (one : Cut). (bytes_reply one now).settled) (a_cut n now found).1

  pub closing_settles : (cause : Cause) {count : ℕ} → length old.line ≡ 0 → count ≡ waiting_count old →
      entry_settlements (Failed cause) (length gone) (take count (all_entries old)) ≡ (closing_step cause now).reply.settled
  closing_settles cause none all =
      all_settle gone old refl refl cause all (length-map old.line pending_entry ∙ none)

  left_in_line : (new : Unsent) {left : List Outcome} (outcome : Outcome) {count : ℕ} → count ≤ length old.line →
      left ≡ gone ++ map (ended outcome) (take count (old.line ++ old.unflushed)) →
      whole left new ≡ whole (gone ++ map (ended outcome) (take count old.line)) new
  left_in_line new outcome {count} few ends = grind (arith, first_in_line)

-- so the step is made
module _ (gone left : Endings) (old new : Unsent) (unclosed : old.closed ≡ false) {settled : List (PromiseId × Outcome)} where
  pub fails : (cause : Cause) (notice : Bool) {count : ℕ} → count ≡ length old.line →
      LetsGo (Failed cause) count old gone (Ok settled) left → TakesFirst count notice old new →
      Makes (whole gone.list old) (failing_step cause notice (whole gone.list old))
      (Ok (reply_from (Count count) settled (change_between old.word new.word))) (whole left.list new)
  fails cause notice all goes takes =
      let held = whole gone.list old in
      let seen = all ∙ sym (length-map old.line pending_entry) in
      let after = left_in_line gone.list old new (Failed cause) (omega (arith, all)) goes.list ∙ takes.taken gone.list (Failed cause)
      ∙ ap (λ n. times n (front_taken notice (Failed cause)) held) seen in
      makes_taken held (failing_step cause notice held) _ (whole left.list new) unclosed refl
      (same_reply (ap Count seen) (goes.settled ∙ failing_settles gone.list old cause notice all)
      (ap (λ (one : Pending). change_between old.word one.word) after)) after

  pub removes_bytes : (n : ℕ) {cut : Cut} → Some cut ≡ cut_of n (blocks_left (whole gone.list old).line) →
      cut.whole ≤ length old.line → LetsGo Success cut.whole old gone (Ok settled) left → TakesCut cut old new →
      Makes (whole gone.list old) (bytes_step n (whole gone.list old))
      (Ok (reply_from (Count cut.whole) settled (change_between old.word new.word))) (whole left.list new)
  removes_bytes n found few goes takes =
      grind (arith, a_cut, left_in_line, makes_taken, same_reply, removal_settles)

  pub closes : (cause : Cause) {count : ℕ} → length old.line ≡ 0 → count ≡ waiting_count old →
      LetsGo (Failed cause) count old gone (Ok settled) left →
      ((gone : List Outcome) (cause : Cause) →
      whole (gone ++ map (ended (Failed cause)) old.unflushed) new ≡ closed_pending cause (whole gone old)) →
      Makes (whole gone.list old) (closing_step cause (whole gone.list old)) (Ok (reply_from (Count count) settled None))
      (whole left.list new)
  closes cause {count} none all goes closed =
      grind (arith, makes_taken, none_left, length-map, same_reply, closing_settles, nothing_turned, all_unflushed)
