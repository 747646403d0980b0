-- Which promises of a history are settled, and how many; and how many commands of each kind it accepts.
use Rattle.std.proofs.Common.{◌≡◌, ℕ, suc, ◌+◌, ◌*◌, ◌<◌, ◌≤◌, ◌^◌, Bool, true, false, List, [], ◌∷◌, ◌++◌, length, map}
use Rattle.std.proofs.Common.{cond, refl, ap, ◌∙◌, arith, zero, ◌↔◌, inl, inr, eqb, ltb}
use Rattle.std.proofs.lemmas.List.{length-map, map-append}
use Rattle.std.proofs.lemmas.List.Elements.{All-cons, All-nil, Contains-get_or, filter-append, All-head, All-tail}
use Rattle.std.proofs.lemmas.List.Sums.{sum_by-append, sum_by-le, length-filter, count_by-le-length, sum_by-cons}
use Rattle.std.proofs.lemmas.List.Sums.{sum_by_push}
use Rattle.std.proofs.lemmas.Bool.{cases_lt}
use Rattle.std.proofs.lemmas.Bool.Decides.{nat_tests}
use Rattle.std.proofs.lemmas.List.Concat.{flat_map-append}
use Rattle.std.specs.Prelude.{filter, sum_by, ◌==◌, nat_lt, count_by, slice_index_or, Option, Some, None}
use Rattle.std.specs.List.{All, Contains, range_with_len}
use Rattle.ob_types.specs.Limits.{greatest_total}
use Rattle.ob_types.specs.declared.command.Command.{Command}
use Rattle.ob_types.specs.declared.command.Command.TheVariants.{Write, Flush, Remove, RemoveWith, RemoveBytes, Progress}
use Rattle.ob_types.specs.declared.command.Command.TheVariants.{Cancel, FailFlushed, Close, UserBit, SetMarks}
use Rattle.ob_history.specs.History.{accepted_commands, is_accepted, most_records, History, IsBounded, IsLegal}
use Rattle.ob_history.specs.History.{settlements_in}
use Rattle.ob_history.specs.declared.record.Record.{Record}
use Rattle.ob_types.specs.declared.promise.Outcome.{Outcome}
use Rattle.ob_types.specs.declared.promise.Outcome.TheVariants.{Success, Failed, Cancelled}
use Rattle.ob_types.specs.declared.promise.PromiseId.{PromiseId}
use Rattle.ob_types.specs.declared.promise.PromiseState.{PromiseState}
use Rattle.ob_types.specs.declared.promise.PromiseState.TheVariants.{Settled}
use Rattle.ob_seq.specs.Looks.{promise_after}
use Rattle.ob_seq.specs.Rows.{Settings}
use Rattle.ob_seq.specs.Pending.{settled_by, times_settled}
use Rattle.ob_seq.specs.State.{writes_in}
use Rattle.ob_types.specs.Traits.{is_write}
use Rattle.ob_types.specs.Replies.{is_cancelled, is_failed, is_success}
use Rattle.ob_pool.specs.Report.{removed_by, taken_of, left_of, settled_as, writes_of}

-- what a record asked
abbrev command_of : Record → Command
command_of one = one.command

-- the accepted commands of two lists of records
pub accepted_of_both : (records more : List Record) →
    accepted_commands (records ++ more) ≡ accepted_commands records ++ accepted_commands more
accepted_of_both records more =
    ap (map command_of) (filter-append is_accepted records more)
    ∙ map-append command_of (filter is_accepted records) (filter is_accepted more)

-- the bytes that two lists of records tell were taken
pub taken_of_both : (records more : List Record) → taken_of (records ++ more) ≡ taken_of records + taken_of more
taken_of_both records more =
    ap (sum_by removed_by) (accepted_of_both records more)
    ∙ sum_by-append removed_by (accepted_commands records) (accepted_commands more)

-- no more commands are accepted than there are records
pub accepted_at_most : (records : List Record) → length (accepted_commands records) ≤ length records
accepted_at_most records =
    omega (
      arith,
      length-map (filter is_accepted records) command_of,
      length-filter is_accepted records,
      count_by-le-length is_accepted records,
    )

-- what each accepted record keeps to, each accepted command does
accepted_all : (P : Command → Type 0) (records : List Record) →
    All (λ one. is_accepted one ≡ true → P one.command) records → All P (accepted_commands records)
accepted_all P [] each = All-nil P
accepted_all P (one ∷ records) each =
    by_reply (is_accepted one) refl (accepted_all P records (λ k d within. each (suc k) d (omega (arith, within))))
  where
    by_reply : (accepted : Bool) → is_accepted one ≡ accepted → All P (accepted_commands records) →
        All P (map command_of (cond accepted (one ∷ filter is_accepted records) (filter is_accepted records)))
    by_reply true is rest = All-cons P one.command (accepted_commands records) (each 0 one (omega arith) is) rest
    by_reply false is rest = rest

-- the bytes of some records fit, where each removal does
pub taken_fits : (most : ℕ) (records : List Record) →
    All (λ one. is_accepted one ≡ true → removed_by one.command ≤ most) records →
    taken_of records ≤ length records * most
taken_fits most records each =
    let sum = sum_by-le removed_by most (accepted_commands records)
    (accepted_all (λ command. removed_by command ≤ most) records each) in
    by_count (length (accepted_commands records)) (length records) sum (accepted_at_most records)
  where
    by_count : (few many : ℕ) → taken_of records ≤ few * most → few ≤ many → taken_of records ≤ many * most
    by_count few many sum at_most = grind (arith, sum, at_most)

removal_within : (most : ℕ) (command : Command) → ((n : ℕ) → command ≡ RemoveBytes n → n ≤ most) →
    removed_by command ≤ most
removal_within most (Write message) law = omega arith
removal_within most Flush law = omega arith
removal_within most Remove law = omega arith
removal_within most (RemoveWith cause) law = omega arith
removal_within most (RemoveBytes n) law = law n refl
removal_within most (Progress n) law = omega arith
removal_within most (Cancel id) law = omega arith
removal_within most (FailFlushed cause notify) law = omega arith
removal_within most (Close cause) law = omega arith
removal_within most (UserBit index writable) law = omega arith
removal_within most (SetMarks marks) law = omega arith

-- where each accepted removal keeps to the greatest total, all of them fit 64 bits
pub taken_fits_word : (records : List Record) →
    ((one : Record) (n : ℕ) → Contains records one → is_accepted one ≡ true → one.command ≡ RemoveBytes n →
    n ≤ greatest_total) →
    length records ≤ most_records → taken_of records < 2 ^ 64
taken_fits_word records law few =
    let fits = taken_fits greatest_total records (λ k d within accepted. removal_within greatest_total _
    (λ n is. law _ n (Contains-get_or records k d within) accepted is)) in
    omega (arith, fits, few)

-- how many settlements are of promises below an id
abbrev below : ℕ → List (PromiseId × Outcome) → ℕ
below id settlements = count_by (λ settlement. nat_lt settlement.0.0 id) settlements

-- how many promises below an id are not settled
abbrev pub open_below : ℕ → List (PromiseId × Outcome) → ℕ
open_below id settlements = count_by (λ k. times_settled (record { 0 = k }) settlements == 0) (range_with_len 0 id)

next_id : (a n : ℕ) → cond {A = ℕ} (ltb a (suc n)) 1 0 ≡ cond (ltb a n) 1 0 + cond (eqb a n) 1 0
next_id a n = grind (arith, nat_tests)

below_next : (id : ℕ) (settlements : List (PromiseId × Outcome)) →
    below (suc id) settlements ≡ below id settlements + times_settled (record { 0 = id }) settlements
below_next id [] = refl
below_next id (one ∷ settlements) =
    omega (
      arith,
      sum_by-cons (λ (settlement : PromiseId × Outcome). cond (nat_lt settlement.0.0 (suc id)) 1 0) one settlements,
      sum_by-cons (λ (settlement : PromiseId × Outcome). cond (nat_lt settlement.0.0 id) 1 0) one settlements,
      sum_by-cons (λ (settlement : PromiseId × Outcome). cond (settlement.0.0 == id) 1 0) one settlements,
      below_next id settlements,
      next_id one.0.0 id,
    )

one_more_number : (a n : ℕ) → range_with_len a (suc n) ≡ range_with_len a n ++ (a + n) ∷ []
one_more_number a zero = ap (λ k. k ∷ []) (omega arith)
one_more_number a (suc n) =
    ap (λ rest. a ∷ rest) (one_more_number (a + 1) n ∙ ap (λ k. range_with_len (a + 1) n ++ k ∷ []) (omega arith))

once_or_never : (times : ℕ) → times ≤ 1 → cond {A = ℕ} (eqb times 0) 1 0 + times ≡ 1
once_or_never times few = grind (arith, nat_tests, few)

never : (a : ℕ) → cond {A = ℕ} (ltb a 0) 1 0 ≡ 0
never a = grind (arith, nat_tests)

-- each promise below an id is open, or one of the settlements is its
pub open_or_settled : (id : ℕ) (settlements : List (PromiseId × Outcome)) →
    ((k : PromiseId) → times_settled k settlements ≤ 1) → open_below id settlements + below id settlements ≡ id
open_or_settled zero settlements once = omega (arith, none_below settlements)
  where
    none_below : (settlements : List (PromiseId × Outcome)) → below 0 settlements ≡ 0
    none_below [] = refl
    none_below (one ∷ settlements) =
        omega (
          arith,
          sum_by-cons (λ (settlement : PromiseId × Outcome). cond (nat_lt settlement.0.0 0) 1 0) one settlements,
          none_below settlements,
          never one.0.0,
        )
open_or_settled (suc id) settlements once =
    let is_open : ℕ → Bool = λ k. times_settled (record { 0 = k }) settlements == 0 in
    let same : 0 + id ≡ id = omega arith in
    let pushed : open_below (suc id) settlements ≡ open_below id settlements + cond (is_open id) 1 0 =
    ap (count_by is_open) (one_more_number 0 id)
    ∙ sum_by_push (λ k. cond (is_open k) 1 0) (range_with_len 0 id) (0 + id)
    ∙ ap (λ k. open_below id settlements + cond (is_open k) 1 0) same in
    omega (
      arith,
      pushed,
      below_next id settlements,
      open_or_settled id settlements once,
      once_or_never (times_settled (record { 0 = id }) settlements) (once (record { 0 = id })),
    )

-- if all settlements are of promises below an id, all count
pub all_below : (id : ℕ) (settlements : List (PromiseId × Outcome)) → All (λ one. one.0.0 < id) settlements →
    below id settlements ≡ length settlements
all_below id [] each = refl
all_below id (one ∷ settlements) each =
    let rest = all_below id settlements (All-tail (λ (one : PromiseId × Outcome). one.0.0 < id) one settlements each) in
    let first = All-head (λ (one : PromiseId × Outcome). one.0.0 < id) one settlements each in
    omega (
      arith,
      sum_by-cons (λ (settlement : PromiseId × Outcome). cond (nat_lt settlement.0.0 id) 1 0) one settlements,
      rest,
      counts one.0.0 first,
    )
  where
    counts : (a : ℕ) → a < id → cond {A = ℕ} (ltb a id) 1 0 ≡ 1
    counts a within = grind (arith, nat_tests, within)

-- each settlement has one of three outcomes
pub by_outcome : (settlements : List (PromiseId × Outcome)) →
    count_by (λ settlement. is_success settlement.1) settlements
    + count_by (λ settlement. is_failed settlement.1) settlements
    + count_by (λ settlement. is_cancelled settlement.1) settlements ≡ length settlements
by_outcome [] = refl
by_outcome (one ∷ settlements) =
    omega (
      arith,
      sum_by-cons (λ (settlement : PromiseId × Outcome). cond (is_success settlement.1) 1 0) one settlements,
      sum_by-cons (λ (settlement : PromiseId × Outcome). cond (is_failed settlement.1) 1 0) one settlements,
      sum_by-cons (λ (settlement : PromiseId × Outcome). cond (is_cancelled settlement.1) 1 0) one settlements,
      by_outcome settlements,
      one_of_three one.1,
    )
  where
    one_of_three : (outcome : Outcome) →
        cond {A = ℕ} (is_success outcome) 1 0 + cond (is_failed outcome) 1 0 + cond (is_cancelled outcome) 1 0 ≡ 1
    one_of_three Success = refl
    one_of_three (Failed cause) = refl
    one_of_three Cancelled = refl

-- the settlements of two lists of records
pub settlements_of_both : (records more : List Record) →
    settlements_in (records ++ more) ≡ settlements_in records ++ settlements_in more
settlements_of_both records more = flat_map-append (λ (one : Record). settled_by one.reply) records more

-- if promises are unknown from the writes on, and only known ones are settled, all settlements are of earlier ones
pub settled_within : (settings : Settings) (records : List Record) →
    ((id : PromiseId) (outcome : Outcome) →
    promise_after settings (accepted_commands records) id ≡ Some (Settled outcome)
    ↔ Contains (settlements_in records) (id, outcome)) →
    ((id : PromiseId) → promise_after settings (accepted_commands records) id ≡ None
    ↔ writes_in (accepted_commands records) ≤ id.0) →
    All (λ one. one.0.0 < writes_of records) (settlements_in records)
settled_within settings records told unknown k d within =
    elim (cases_lt one.0.0 (writes_of records)) [
      | inl known ↦ known
      | inr past ↦ absurd (not_both is_settled ((unknown one.0).1 past))
    ]
  where
    one : PromiseId × Outcome
    one = slice_index_or (settlements_in records) k d

    is_settled : promise_after settings (accepted_commands records) one.0 ≡ Some (Settled one.1)
    is_settled = (told one.0 one.1).1 (Contains-get_or (settlements_in records) k d within)

    not_both : {state : Option PromiseState} {settled : PromiseState} → state ≡ Some settled → state ≡ None → ⊥
    not_both some none = absurd (cc)

-- the writes of a history are those whose promise is open, and those whose promise is settled
pub left_and_settled : (records : List Record) →
    ((id : PromiseId) → times_settled id (settlements_in records) ≤ 1) →
    All (λ one. one.0.0 < writes_of records) (settlements_in records) →
    left_of records + length (settlements_in records) ≡ writes_of records
left_and_settled records once within =
    omega (
      arith,
      open_or_settled (writes_of records) (settlements_in records) once,
      all_below (writes_of records) (settlements_in records) within,
    )

-- what the numbers of a history come to
pub record Tally (records : List Record) : Type 0 where
  pub sum : settled_as is_success records + settled_as is_failed records + settled_as is_cancelled records
      ≡ length (settlements_in records)
  pub left : left_of records + length (settlements_in records) ≡ writes_of records
  pub few : writes_of records ≤ most_records

-- by the laws of legal histories
pub tallied : (settings : Settings) (history : History) →
    ((settings : Settings) (records : List Record) (id : PromiseId) → IsLegal settings records →
    times_settled id (settlements_in records) ≤ 1) →
    ((settings : Settings) (records : List Record) (id : PromiseId) (outcome : Outcome) → IsLegal settings records →
    promise_after settings (accepted_commands records) id ≡ Some (Settled outcome)
    ↔ Contains (settlements_in records) (id, outcome)) →
    ((settings : Settings) (records : List Record) (id : PromiseId) →
    promise_after settings (accepted_commands records) id ≡ None ↔ writes_in (accepted_commands records) ≤ id.0) →
    IsLegal settings history.records → IsBounded history → Tally history.records
tallied settings history once told unknown legal bounded =
    let records = history.records in
    record {
      sum = by_outcome (settlements_in records);
      left = left_and_settled records (λ id. once settings records id legal)
          (settled_within settings records (λ id outcome. told settings records id outcome legal)
          (unknown settings records));
      few = omega (
        arith,
        count_by-le-length is_write (accepted_commands records),
        accepted_at_most records,
        bounded.places,
        bounded.limit,
      );
    }
