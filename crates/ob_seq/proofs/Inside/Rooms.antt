-- How many promises there are, which no step but a write changes.
use Rattle.ob_seq.proofs.Words.{[], ◌≡◌, ℕ, zero, suc, ◌+◌, ◌∷◌, ◌++◌, List, length, refl, sym, ap, ◌∙◌, arith, length-append, length-map}
use Rattle.ob_seq.proofs.Words.{Outcome, Unsent, whole, waiting_count, fixed_state, waiting_state, Pending, times, next_flushed}
use Rattle.ob_seq.proofs.Words.{Settled, map, PromiseState, slice_set, cond, Bool, false, true, Fixed, Waiting, get_or, ◌<◌, ◌≤◌, front_taken, unflushed_id, front_id}
use Rattle.ob_seq.proofs.Words.{Entry, PendingEntry, pending_entry, unreached_entry, pending_entries, is_waiting, drop, append_assoc, ltb, nat_tests}
use Rattle.ob_types.specs.declared.message.Message.{Message}
use Rattle.ob_seq.specs.Steps.Commands.{front_skipped, is_next_cancelled, written}
use Rattle.ob_seq.specs.Steps.Step.{is_first_voided, promise_set, state_at}
use Rattle.std.proofs.Math.ListN.{get_or-append}
use Rattle.std.proofs.lemmas.List.{drop_at}
use Rattle.std.proofs.lemmas.List.{length-set}

-- as many as messages are gone and wait
pub promises_there : (gone : List Outcome) (unsent : Unsent) →
    length (whole gone unsent).promises ≡ length gone + waiting_count unsent
promises_there gone unsent = grind (arith, length-map, length-append)

-- as many entries are seen in line as stand there
pub line_there : (gone : List Outcome) (unsent : Unsent) {now : Pending} → whole gone unsent ≡ now →
    length now.line ≡ length unsent.line
line_there gone unsent view = rw (← view) (length-map unsent.line pending_entry)

-- if a step leaves as many promises, as many messages wait
pub same_waiting : (old new : Unsent) → length (whole [] new).promises ≡ length (whole [] old).promises →
    waiting_count new ≡ waiting_count old
same_waiting old new same = omega (arith, promises_there [] old, promises_there [] new)

-- one message more waits after a write
pub added_waiting : (old new : Unsent) (message : Message) (size : ℕ) →
    whole [] new ≡ written (whole [] old) message size → waiting_count new ≡ waiting_count old + 1
added_waiting old new message size is =
    let same = ap (λ (one : Pending). length one.promises) is in
    let more = length-append (whole [] old).promises (Waiting ∷ []) in
    omega (arith, promises_there [] old, promises_there [] new)

set_by : (flag : Bool) (promises : List PromiseState) (id : ℕ) (state : PromiseState) →
    length (cond flag promises (slice_set promises id state)) ≡ length promises
set_by flag promises id state = let set = length-set promises id state in grind arith

pub flushed_promises : (n : ℕ) (old : Pending) → length (times n next_flushed old).promises ≡ length old.promises
flushed_promises zero old = refl
flushed_promises (suc n) old =
    let now = times n next_flushed old in
    set_by (is_next_cancelled now) now.promises (unflushed_id now) Fixed ∙ flushed_promises n old

-- one message fewer waits when one is taken away
pub taken_waiting : (notice : Bool) (outcome left : Outcome) (old new : Unsent) →
    whole (left ∷ []) new ≡ front_taken notice outcome (whole [] old) → waiting_count new + 1 ≡ waiting_count old
taken_waiting notice outcome left old new is =
    let held = whole [] old in
    let same = ap (λ (one : Pending). length one.promises) is in
    let kept = set_by (is_first_voided held.line) held.promises (front_id held) (Settled outcome) in
    omega (arith, promises_there (left ∷ []) new, promises_there [] old)

-- as many fewer wait when several are
taken_promises : (notice : Bool) (outcome : Outcome) (n : ℕ) (old : Pending) →
    length (times n (front_taken notice outcome) old).promises ≡ length old.promises
taken_promises notice outcome zero old = refl
taken_promises notice outcome (suc n) old =
    let now = times n (front_taken notice outcome) old in
    set_by (is_first_voided now.line) now.promises (front_id now) (Settled outcome) ∙ taken_promises notice outcome n old

pub fewer_waiting : (notice : Bool) (outcome : Outcome) (n : ℕ) (left : List Outcome) (old new : Unsent) → length left ≡ n →
    whole left new ≡ times n (front_taken notice outcome) (whole [] old) → waiting_count new + n ≡ waiting_count old
fewer_waiting notice outcome n left old new many is =
    let same = ap (λ (one : Pending). length one.promises) is in
    omega (arith, many, same, taken_promises notice outcome n (whole [] old), promises_there left new, promises_there [] old)

pub skipped_promises : (n : ℕ) (old : Pending) → length (front_skipped n old).promises ≡ length old.promises
skipped_promises n old = grind (arith, nat_tests)

-- what is gone is settled, and what stands in line waits no more
in_line_settled : (line : List Entry) (id : ℕ) → id < length (map fixed_state line) →
    is_waiting (get_or (map fixed_state line) id Waiting) ≡ false
in_line_settled [] id some = absurd (omega arith)
in_line_settled (entry ∷ line) zero some = grind arith
in_line_settled (entry ∷ line) (suc id) some = in_line_settled line id (omega arith)

early_settled : (gone : List Outcome) (line : List Entry) (id : ℕ) →
    id < length (map Settled gone ++ map fixed_state line) →
    is_waiting (get_or (map Settled gone ++ map fixed_state line) id Waiting) ≡ false
early_settled [] line id some = in_line_settled line id some
early_settled (outcome ∷ gone) line zero some = refl
early_settled (outcome ∷ gone) line (suc id) some = early_settled gone line id (omega arith)

pub waits_behind : (gone : List Outcome) (unsent : Unsent) (id : ℕ) →
    is_waiting (state_at (whole gone unsent) id) ≡ true → (early : Bool) →
    ltb id (length gone + length unsent.line) ≡ early → length gone + length unsent.line ≤ id
waits_behind gone unsent id waits false late = grind (arith, nat_tests)
waits_behind gone unsent id waits true early =
    let first = map Settled gone ++ map fixed_state unsent.line in
    let rest = map waiting_state unsent.unflushed in
    let settled = length-map gone (λ outcome. Settled outcome) in
    let line = length-map unsent.line fixed_state in
    let both = length-append (map {A = Outcome} {B = PromiseState} (λ outcome. Settled outcome) gone)
    (map fixed_state unsent.line) in
    let less : id < length gone + length unsent.line = grind (arith, nat_tests) in
    let before : id < length first = omega arith in
    let here = get_or-append first rest Waiting id before in
    let whole_is = append_assoc (map {A = Outcome} {B = PromiseState} (λ outcome. Settled outcome) gone)
    (map fixed_state unsent.line) rest in
    let not : is_waiting (state_at (whole gone unsent) id) ≡ false =
    ap (λ all. is_waiting (get_or all id Waiting)) (sym whole_is) ∙ ap is_waiting here ∙ early_settled gone unsent.line id before in
    absurd (let both_are = sym waits ∙ not in cc)

-- the promises of the entries that no flush has reached
pub fresh_states : (gone : List Outcome) (unsent : Unsent) →
    drop (unflushed_id (whole gone unsent)) (whole gone unsent).promises ≡ map waiting_state unsent.unflushed
fresh_states gone unsent =
    let settled = map {A = Outcome} {B = PromiseState} (λ outcome. Settled outcome) gone in
    let first = settled ++ map fixed_state unsent.line in
    let rest = map waiting_state unsent.unflushed in
    let all = promises_there gone unsent in
    let count = length-map gone (λ outcome. Settled outcome) in
    let line = length-map unsent.line fixed_state in
    let both = length-append settled (map fixed_state unsent.line) in
    let seen = length-map unsent.unflushed unreached_entry in
    let id : length first ≡ unflushed_id (whole gone unsent) = omega arith in
    ap (drop (unflushed_id (whole gone unsent))) (sym (append_assoc settled (map fixed_state unsent.line) rest))
    ∙ drop_at first rest (unflushed_id (whole gone unsent)) id

-- whether the front was voided, among all that wait
pub back_first : (line unflushed : List Entry) (other : PendingEntry) → 0 < length line →
    (get_or (pending_entries (line ++ unflushed)) 0 other).voided ≡ is_first_voided (pending_entries line)
back_first [] unflushed other some = absurd (omega arith)
back_first (entry ∷ line) unflushed other some = refl

-- as many messages wait when the state of a promise is set
pub set_waiting : (id : ℕ) (state : PromiseState) (old new : Unsent) →
    whole [] new ≡ promise_set id state (whole [] old) → waiting_count new ≡ waiting_count old
set_waiting id state old new is = grind (arith, same_waiting, length-set)

-- what is gone waits no more
by_waiting : (now waits : Bool) → now ≡ waits → (now ≡ true → ⊥) → waits ≡ false
by_waiting now true same never = absurd (never same)
by_waiting now false same never = refl

pub gone_waits_not : (gone : List Outcome) (unsent : Unsent) (id : ℕ) → id < length gone →
    is_waiting (state_at (whole gone unsent) id) ≡ false
gone_waits_not gone unsent id early =
    by_waiting (is_waiting (state_at (whole gone unsent) id)) (is_waiting (state_at (whole gone unsent) id)) refl (λ waits.
    let behind = waits_behind gone unsent id waits (ltb id (length gone + length unsent.line)) refl in
    omega (arith, behind))

-- the promise of the front is that of the first message that waits
pub front_id_there : (gone : List Outcome) (unsent : Unsent) → front_id (whole gone unsent) ≡ length gone
front_id_there gone unsent = grind (arith, promises_there, length-map)
