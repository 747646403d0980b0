-- The promises of what waits, behind those of what is gone, as a buffer takes its steps.
use Rattle.ob_seq.proofs.Words.{[], ◌≡◌, ℕ, zero, suc, ◌+◌, ◌-◌, ◌<◌, ◌≤◌, Bool, true, false, List, ◌∷◌, ◌++◌, length, map, get_or}
use Rattle.ob_seq.proofs.Words.{refl, sym, ap, ◌∙◌, cond, append_assoc, append-nil, arith, slice_set, map-append, length-map, length-append, length-take-le, leb, nat_tests}
use Rattle.ob_seq.proofs.Words.{set-append_seam, get_or-append_seam, take, drop, Cause, Failed, failed, closed_pending}
use Rattle.ob_seq.proofs.Words.{Marks, Settings, Outcome, Cancelled, PromiseState, Waiting, Fixed, Settled, is_cancelled}
use Rattle.ob_seq.proofs.Words.{Entry, PendingEntry, Pending, pending_entry, pending_entries, unreached_entry, fixed_state}
use Rattle.ob_seq.proofs.Words.{waiting_state, whole, Unsent, ended, pending_total, counted, next_flushed, reached_entry, front_taken}
use Rattle.ob_seq.proofs.Words.{none_taken_back, times, word_after_fall, word_after_rise, unflushed_id, front_id, promise_set, Message}
use Rattle.std.proofs.Math.Seq.{map-set_same}
use Rattle.std.proofs.lemmas.List.{drop_at, take_at, get_or-append_right, get_or-map, set-append_right, map-set}
use Rattle.std.proofs.lemmas.List.{drop_more, drop-set-lt, take_more_set, get_or_default, set-get_or, length-take, length-drop}
use Rattle.std.proofs.lemmas.List.{get_or-take, get_or-drop, take-set-le, drop-set-add}
use Rattle.ob_seq.proofs.Inside.Fields.{total_of, both_runs, first_not_back, rest_not_back}
use Rattle.ob_seq.proofs.Inside.Steps.{times_first}
use Rattle.std.proofs.Math.ListN.{get_or-append}
use Rattle.ob_seq.specs.Steps.Commands.{is_next_cancelled, written}
use Rattle.ob_seq.specs.Steps.Step.{state_at}

-- what a buffer holds, by its parts
abbrev pub pending_from : Settings → Marks → List PendingEntry → List PendingEntry → List PromiseState → ℕ → Bool → Pending
pending_from settings marks line unflushed promises word closed = record {
  settings = settings;
  marks = marks;
  line = line;
  unflushed = unflushed;
  promises = promises;
  word = word;
  closed = closed;
}

-- two buffers with the same parts hold the same
pub same_pending : (settings : Settings) (marks : Marks) (closed : Bool) {line line' unflushed unflushed' : List PendingEntry}
    {promises promises' : List PromiseState} {word word' : ℕ} →
    line ≡ line' → unflushed ≡ unflushed' → promises ≡ promises' → word ≡ word' →
    pending_from settings marks line unflushed promises word closed
    ≡ pending_from settings marks line' unflushed' promises' word' closed
same_pending settings marks closed l u p w = cc

-- what waits, by its parts
abbrev pub unsent_from : Settings → Marks → Bool → List Entry → List Entry → ℕ → Unsent
unsent_from settings marks closed line unflushed word =
    record {
      settings = settings;
      marks = marks;
      line = line;
      unflushed = unflushed;
      word = word;
      closed = closed;
      room = 0;
      capacity = 0;
    }

-- of which promise a flush asks next
next_asked : (before rest : List PromiseState) (state : PromiseState) (old : Pending) →
    old.promises ≡ before ++ state ∷ rest → length old.unflushed ≡ suc (length rest) →
    unflushed_id old ≡ length before
next_asked before rest state old promises size =
    rw (promises, size, length-append) (omega arith)

waiting_cancelled : (entry : Entry) → is_cancelled (waiting_state entry) ≡ entry.taken_back
waiting_cancelled entry = grind arith

fixed_by : (before rest : List PromiseState) (entry : Entry) →
    cond entry.taken_back (before ++ waiting_state entry ∷ rest)
    (slice_set (before ++ waiting_state entry ∷ rest) (length before) Fixed)
    ≡ before ++ fixed_state entry ∷ rest
fixed_by before rest entry = rw set-append_seam (grind arith)

reached_same : (entry : Entry) →
    reached_entry entry.taken_back (pending_entry entry) ≡ reached_entry entry.taken_back (unreached_entry entry)
reached_same entry = grind arith

reached_back : (entry reached : Entry) → pending_entry reached ≡ reached_entry entry.taken_back (pending_entry entry) →
    fixed_state reached ≡ fixed_state entry
reached_back entry reached is = grind arith

-- the promise of an entry that leaves with an outcome
ended_by : (before rest : List PromiseState) (outcome : Outcome) (entry : Entry) →
    cond entry.taken_back (before ++ fixed_state entry ∷ rest)
    (slice_set (before ++ fixed_state entry ∷ rest) (length before) (Settled outcome))
    ≡ before ++ Settled (ended outcome entry) ∷ rest
ended_by before rest outcome entry = rw set-append_seam (grind arith)

failed_ended : (cause : Cause) (entries : List Entry) →
    map (failed cause) (map waiting_state entries) ≡ map Settled (map (ended (Failed cause)) entries)
failed_ended cause [] = refl
failed_ended cause (entry ∷ entries) = rw (failed_ended cause entries) (grind arith)

-- two reads at a place give the same
pub same_read : (items : List Entry) (n : ℕ) (one other : Entry) → n < length items → one ≡ get_or items n one →
    other ≡ get_or items n other → one ≡ other
same_read items n one other within is also =
    is ∙ get_or_default items n one other within ∙ sym also

module _ (gone : List Outcome) (settings : Settings) (marks : Marks) (closed : Bool) where
  abbrev there : List Entry → List Entry → ℕ → Unsent
  there line unflushed word = unsent_from settings marks closed line unflushed word

  abbrev before : List Entry → List PromiseState
  before line = map Settled gone ++ map fixed_state line

  -- one more message behind all others
  pub written_is : (line unflushed : List Entry) (word word' : ℕ) (message : Message) (size : ℕ) →
      word' ≡ word_after_rise marks word size (pending_total (whole [] (there line unflushed word)) + size) →
      (let entry : Entry = record { message = message; progress = 0; size = size; taken_back = false } in
      whole gone (there line (unflushed ++ entry ∷ []) word') ≡ written (whole gone (there line unflushed word)) message size)
  written_is line unflushed word word' message size rises =
      grind (arith, same_pending, map-append, append_assoc)

  -- one more entry in line, as the flush reaches it
  pub next_is : (line : List Entry) (entry reached : Entry) (behind : List Entry) (word word' : ℕ) →
      pending_entry reached ≡ reached_entry entry.taken_back (pending_entry entry) →
      word' ≡ cond entry.taken_back
      (word_after_fall marks word entry.size (pending_total (whole [] (there line (entry ∷ behind) word)) - entry.size))
      word →
      whole gone (there (line ++ reached ∷ []) behind word')
      ≡ next_flushed (whole gone (there line (entry ∷ behind) word))
  next_is line entry reached behind word word' is falls =
      let old = whole gone (there line (entry ∷ behind) word) in
      let first = before line in
      let rest = map waiting_state behind in
      let promises : old.promises ≡ first ++ waiting_state entry ∷ rest =
      sym (append_assoc (map Settled gone) (map fixed_state line) (waiting_state entry ∷ rest)) in
      let size : length old.unflushed ≡ suc (length rest) = rw (length-map, length-map) refl in
      let id = next_asked first rest (waiting_state entry) old promises size in
      let back : is_next_cancelled old ≡ entry.taken_back =
      rw (id, promises, get_or-append_seam first (waiting_state entry) rest Waiting) (waiting_cancelled entry) in
      same_pending settings marks closed
      (rw (map-append pending_entry line (reached ∷ []), back)
      (ap (λ one. pending_entries line ++ one ∷ []) (is ∙ reached_same entry))) refl
      (rw (back, id, promises, map-append fixed_state line (reached ∷ []), append_assoc, reached_back entry reached is)
      (sym (append_assoc (map Settled gone) (map fixed_state line) (fixed_state entry ∷ rest))
      ∙ sym (fixed_by first rest entry)))
      (rw back falls)

  -- without the first entry in line
  pub taken_is : (notice : Bool) (outcome : Outcome) (entry : Entry) (line unflushed : List Entry) (word word' : ℕ) →
      word' ≡ cond notice
      (word_after_fall marks word entry.size (pending_total (whole [] (there (entry ∷ line) unflushed word)) - entry.size))
      word →
      whole (gone ++ ended outcome entry ∷ []) (there line unflushed word')
      ≡ front_taken notice outcome (whole gone (there (entry ∷ line) unflushed word))
  taken_is notice outcome entry line unflushed word word' falls =
      let old = whole gone (there (entry ∷ line) unflushed word) in
      let first = map Settled gone in
      let rest = map fixed_state line ++ map waiting_state unflushed in
      let id : front_id old ≡ length first = rw (length-append, length-append, length-map, length-map, length-map, length-map, length-map) (omega arith) in
      same_pending settings marks closed refl refl
      (rw (id, map-append Settled gone (ended outcome entry ∷ []), append_assoc)
      (sym (ended_by first rest outcome entry))) falls

  -- without any entry, and closed
  pub shut_is : (cause : Cause) (unflushed : List Entry) (word : ℕ) →
      whole (gone ++ map (ended (Failed cause)) unflushed) (unsent_from settings marks true [] [] word)
      ≡ closed_pending cause (whole gone (there [] unflushed word))
  shut_is cause unflushed word =
      grind (arith, length-append, length-map, same_pending, take_at, drop_at, failed_ended, map-append, append-nil)

  -- one more of some entries in line, as the flush reaches it
  pub kept_next : (items : List Entry) (n : ℕ) (entry reached : Entry) (word word' : ℕ) → n < length items →
      entry ≡ get_or items n entry →
      pending_entry reached ≡ reached_entry entry.taken_back (pending_entry entry) →
      word' ≡ cond entry.taken_back (word_after_fall marks word entry.size (counted items - entry.size)) word →
      whole gone (there (take (n + 1) (slice_set items n reached)) (drop (n + 1) (slice_set items n reached)) word')
      ≡ next_flushed (whole gone (there (take n items) (drop n items) word))
  kept_next items n entry reached word word' within read is falls =
      let first : drop n items ≡ entry ∷ drop (n + 1) items = rw (← read) at (drop_more items n entry within) in
      let sum : counted items ≡ pending_total (whole [] (there (take n items) (entry ∷ drop (n + 1) items) word)) =
      sym (total_of [] (there (take n items) (entry ∷ drop (n + 1) items) word)
      ∙ rw first at (both_runs n items)) in
      rw (take_more_set items n reached within, drop-set-lt (n + 1) items n reached (omega arith), first)
      (next_is (take n items) entry reached (drop (n + 1) items) word word' is (rw (← sum) falls))

  pub kept_fixed : (items : List Entry) (n : ℕ) (entry : Entry) (word : ℕ) → n < length items →
      entry ≡ get_or items n entry → entry.taken_back ≡ false →
      whole gone (there (take (n + 1) items) (drop (n + 1) items) word)
      ≡ next_flushed (whole gone (there (take n items) (drop n items) word))
  kept_fixed items n entry word within read flag =
      let same : slice_set items n entry ≡ items = ap (slice_set items n) read ∙ set-get_or items n entry in
      let reached : pending_entry entry ≡ reached_entry entry.taken_back (pending_entry entry) = rw flag refl in
      rw same at (kept_next items n entry entry word word within read reached (rw flag refl))

  -- all entries in line, if none of those that no flush had reached was taken back
  pub all_fixed : (line unflushed : List Entry) (word : ℕ) → none_taken_back unflushed ≡ true →
      whole gone (there (line ++ unflushed) [] word)
      ≡ times (length unflushed) next_flushed (whole gone (there line unflushed word))
  all_fixed line [] word none = rw append-nil refl
  all_fixed line (entry ∷ unflushed) word none =
      let flag = first_not_back entry unflushed none in
      let more = next_is line entry entry unflushed word word (rw flag refl) (rw flag refl) in
      let fixed = all_fixed (line ++ entry ∷ []) unflushed word (rest_not_back entry unflushed none) in
      rw (append_assoc line (entry ∷ []) unflushed) at fixed
      ∙ ap (times (length unflushed) next_flushed) more
      ∙ times_first next_flushed (length unflushed) (whole gone (there line (entry ∷ unflushed) word))

  -- without the first of them
  pub kept_taken : (notice : Bool) (outcome : Outcome) (entry : Entry) (items : List Entry) (n : ℕ) (word word' : ℕ) →
      0 < n →
      word' ≡ cond notice (word_after_fall marks word entry.size (counted (entry ∷ items) - entry.size)) word →
      whole (gone ++ ended outcome entry ∷ []) (there (take (n - 1) items) (drop (n - 1) items) word')
      ≡ front_taken notice outcome (whole gone (there (take n (entry ∷ items)) (drop n (entry ∷ items)) word))
  kept_taken notice outcome entry items zero word word' some falls = absurd (omega arith)
  kept_taken notice outcome entry items (suc n) word word' some falls =
      let less : suc n - 1 ≡ n = omega arith in
      let old = there (entry ∷ take n items) (drop n items) word in
      let sum : counted (entry ∷ items) ≡ pending_total (whole [] old) = sym (total_of [] old ∙ both_runs (suc n) (entry ∷ items)) in
      rw less (taken_is notice outcome entry (take n items) (drop n items) word word' (rw (← sum) falls))

  -- a state behind those of the messages that are gone
  past_gone : (states : List PromiseState) (place : ℕ) →
      get_or (map Settled gone ++ states) (length gone + place) Waiting ≡ get_or states place Waiting
  past_gone states place = grind (arith, get_or-append_right, length-map)

  -- the state of the promise of an entry that stands at a place among some of which *n* are in line
  module _ (items : List Entry) (n place : ℕ) (entry : Entry) (word : ℕ) (within : place < length items)
      (is : entry ≡ get_or items place entry) where
    abbrev state_there : PromiseState
    state_there = state_at (whole gone (there (take n items) (drop n items) word)) (length gone + place)

    abbrev in_line : List PromiseState
    in_line = map fixed_state (take n items)

    abbrev behind : List PromiseState
    behind = map waiting_state (drop n items)

    pub kept_state : place < n → fixed_state entry ≡ state_there
    kept_state before =
        grind (arith, length-take, get_or-append, length-map, get_or-map, past_gone, get_or-take)

    pub kept_waits : n ≤ place → waiting_state entry ≡ state_there
    kept_waits before =
        let size : length in_line ≡ n = rw (length-map) (length-take-le n items (omega arith)) in
        let over = get_or-append_right in_line behind n place Waiting size before in
        let inner : place - n < length (drop n items) = rw (length-drop) (omega arith) in
        let read = get_or-map waiting_state (drop n items) (place - n) entry Waiting inner in
        let whole_place : n + (place - n) ≡ place = omega arith in
        let same : get_or (drop n items) (place - n) entry ≡ entry =
        get_or-drop n items (place - n) entry ∙ rw whole_place (sym is) in
        sym (past_gone (in_line ++ behind) place ∙ over ∙ read ∙ ap waiting_state same)

    pub kept_cancelled : entry.taken_back ≡ true → (late : Bool) → leb n place ≡ late →
        Settled Cancelled ≡ state_there
    kept_cancelled flag true late =
        let past : n ≤ place = grind (arith, nat_tests) in
        let state : Settled Cancelled ≡ waiting_state entry = rw flag in
        state ∙ kept_waits past
    kept_cancelled flag false late = grind (arith, kept_state)

  -- a promise taken back that no flush has reached
  pub kept_back : (items : List Entry) (n place : ℕ) (entry back : Entry) (word : ℕ) → n ≤ place →
      place < length items → entry ≡ get_or items place entry → unreached_entry back ≡ unreached_entry entry →
      back.taken_back ≡ true →
      whole gone (there (take n (slice_set items place back)) (drop n (slice_set items place back)) word)
      ≡ promise_set (length gone + place) (Settled Cancelled) (whole gone (there (take n items) (drop n items) word))
  kept_back items n place entry back word before within is same flag =
      let line = map fixed_state (take n items) in
      let unflushed = drop n items in
      let behind = map waiting_state unflushed in
      let i = place - n in
      let whole_place : n + i ≡ place = omega arith in
      let read : get_or unflushed i entry ≡ entry = get_or-drop n items i entry ∙ rw whole_place (sym is) in
      let set : drop n (slice_set items place back) ≡ slice_set unflushed i back =
      rw whole_place at (drop-set-add n items i back) in
      let state : waiting_state back ≡ Settled Cancelled = rw flag in
      let passed : length gone + place - length gone ≡ place = omega arith in
      let size : length line ≡ n = rw (length-map) (length-take-le n items (omega arith)) in
      let settled = map Settled gone in
      let past = set-append_right settled (line ++ behind) (length gone) (length gone + place) (Settled Cancelled)
      (length-map gone (λ outcome. Settled outcome)) (omega arith) in
      let over = set-append_right line behind n place (Settled Cancelled) size before in
      let waits : map waiting_state (slice_set unflushed i back) ≡ slice_set behind i (Settled Cancelled) =
      map-set waiting_state unflushed i back ∙ ap (slice_set behind i) state in
      let entries : map unreached_entry (slice_set unflushed i back) ≡ map unreached_entry unflushed =
      map-set_same unreached_entry unflushed i back entry (same ∙ ap (λ (one : Entry). unreached_entry one) (sym read)) in
      rw (take-set-le n items place back before, set)
      (same_pending settings marks closed refl entries
      (rw waits (ap (λ all. settled ++ all) (sym over) ∙ sym (rw passed at past))) refl)
