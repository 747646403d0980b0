-- The numbers of records and receipts, counted one by one, and counts that are true if they fit, put together.
use Rattle.std.proofs.Common.{◌≡◌, ℕ, ◌+◌, ◌<◌, ◌^◌, Bool, List, [], ◌∷◌, ◌++◌, length, map, take, sym, ap, ◌∙◌, cond}
use Rattle.std.proofs.Common.{arith, true, false, eqb, eqb-true, refl, ap₂, subst}
use Rattle.std.proofs.lemmas.List.{map-append, take_more, append-nil}
use Rattle.std.proofs.lemmas.List.Sums.{count_by-le-length, sum_by-append}
use Rattle.std.proofs.lemmas.List.Elements.{All-cons, All-nil}
use Rattle.std.proofs.lemmas.List.Concat.{flat_map-append, flat_map-cons}
use Rattle.std.specs.Prelude.{◌&&◌, nat_lt, not, count_by, slice_index_or, Some, find, option_map, IfOk, IsOkAnd}
use Rattle.std.specs.Prelude.{Result, Ok, Err}
use Rattle.std.specs.List.{All}
use Rattle.ob_types.specs.Traits.{is_write}
use Rattle.ob_types.specs.declared.command.Command.{Command}
use Rattle.ob_types.specs.declared.promise.Outcome.{Outcome}
use Rattle.ob_types.specs.declared.promise.PromiseId.{PromiseId}
use Rattle.ob_history.specs.History.{accepted_commands, is_accepted, History, IsBounded, settlements_in, record_of}
use Rattle.ob_history.specs.declared.record.Record.{Record}
use Rattle.ob_history.specs.declared.receipt.Receipt.{Receipt}
use Rattle.ob_types.specs.Replies.{is_cancelled, is_failed, is_success}
use Rattle.ob_shared.specs.Calls.{first_short, is_short, Handed}
use Rattle.ob_pool.specs.Inside.{DoFit, counts_in, counts_of, plus, AreCounted, AreTrueIfFit, receipts_in}
use Rattle.ob_pool.specs.Report.{is_cancel, is_flush, is_user_bit, settled_as, taken_of}
use Rattle.ob_pool.proofs.Settled.{accepted_at_most, accepted_of_both, taken_of_both, Tally, settlements_of_both}
use Rattle.ob_pool.specs.declared.report.counts.Counts.{Counts}

-- the counts of two lists of records
pub counts_of_both : (writers : ℕ) (records more : List Record) →
    counts_of writers (records ++ more) ≡ plus (counts_of writers records) (counts_of writers more)
counts_of_both writers records more =
    let writes = commands is_write in
    let flushes = commands is_flush in
    let cancels = commands is_cancel in
    let bits = commands is_user_bit in
    let refused = sum_by-append (λ (one : Record). cond {A = ℕ} (nat_lt one.caller writers && not (is_accepted one)) 1 0)
    records more in
    let taken = taken_of_both records more in
    let success = settled is_success in
    let failed = settled is_failed in
    let cancelled = settled is_cancelled in
    cc
  where
    commands : (kind : Command → Bool) → count_by kind (accepted_commands (records ++ more))
        ≡ count_by kind (accepted_commands records) + count_by kind (accepted_commands more)
    commands kind =
        ap (count_by kind) (accepted_of_both records more)
        ∙ sum_by-append (λ command. cond (kind command) 1 0) (accepted_commands records) (accepted_commands more)

    settled : (kind : Outcome → Bool) → settled_as kind (records ++ more)
        ≡ settled_as kind records + settled_as kind more
    settled kind =
        ap (count_by (λ (settlement : PromiseId × Outcome). kind settlement.1)) (settlements_of_both records more)
        ∙ sum_by-append (λ (settlement : PromiseId × Outcome). cond {A = ℕ} (kind settlement.1) 1 0)
        (settlements_in records) (settlements_in more)

-- and of two lists of receipts
pub counts_in_both : (writers : ℕ) (receipts more : List Receipt) →
    counts_in writers (receipts ++ more) ≡ plus (counts_in writers receipts) (counts_in writers more)
counts_in_both writers receipts more =
    ap (counts_of writers) (map-append record_of receipts more)
    ∙ counts_of_both writers (map record_of receipts) (map record_of more)

-- the counts of receipts and of one more
pub counts_more : (writers : ℕ) (receipts : List Receipt) (index : ℕ) (one : Receipt) → index < length receipts →
    one ≡ slice_index_or receipts index one →
    counts_in writers (take (index + 1) receipts)
    ≡ plus (counts_in writers (take index receipts)) (counts_in writers (one ∷ []))
counts_more writers receipts index one within is =
    ap (counts_in writers)
    (take_more receipts index one within ∙ ap (λ last. take index receipts ++ last ∷ []) (sym is))
    ∙ counts_in_both writers (take index receipts) (one ∷ [])

-- the counts of a history fit
pub counts_fit_word : (writers : ℕ) (history : History) → IsBounded history → taken_of history.records < 2 ^ 64 →
    Tally history.records → DoFit (counts_of writers history.records)
counts_fit_word writers history bounded taken tally =
    let records = history.records in
    record {
      writes = commands is_write;
      flushes = commands is_flush;
      cancels = commands is_cancel;
      bits = commands is_user_bit;
      refused = omega (
        arith,
        bounded.places,
        bounded.limit,
        count_by-le-length (λ (one : Record). nat_lt one.caller writers && not (is_accepted one)) records,
      );
      taken = taken;
      success = omega (arith, tally.sum, tally.left, tally.few);
      failed = omega (arith, tally.sum, tally.left, tally.few);
      cancelled = omega (arith, tally.sum, tally.left, tally.few);
    }
  where
    commands : (kind : Command → Bool) → count_by kind (accepted_commands history.records) < 2 ^ 64
    commands kind =
        omega (
          arith,
          bounded.places,
          bounded.limit,
          accepted_at_most history.records,
          count_by-le-length kind (accepted_commands history.records),
        )

-- if no caller hands in another number of receipts than it has made records, each hands in as many
pub none_short : (handed : List Handed) → ((caller : ℕ) → ¬ (first_short handed ≡ Some caller)) →
    All (λ one. one.maker.made ≡ length one.receipts) handed
none_short [] none = All-nil (λ (one : Handed). one.maker.made ≡ length one.receipts)
none_short (one ∷ handed) none = by_length (eqb (length one.receipts) one.maker.made) refl (none_short handed) none
  where
    by_length : (same : Bool) → eqb (length one.receipts) one.maker.made ≡ same →
        (((caller : ℕ) → ¬ (first_short handed ≡ Some caller)) →
        All (λ one. one.maker.made ≡ length one.receipts) handed) →
        ((caller : ℕ) → ¬ (option_map (λ (it : Handed). it.maker.caller)
        (cond (not same) (Some one) (find is_short handed)) ≡ Some caller)) →
        All (λ one. one.maker.made ≡ length one.receipts) (one ∷ handed)
    by_length true is rest none =
        All-cons (λ (one : Handed). one.maker.made ≡ length one.receipts) one handed
        (sym (eqb-true (length one.receipts) one.maker.made is)) (rest none)
    by_length false is rest none = absurd (none one.maker.caller refl)

-- if two counts fit together, each does
front_fits : (counts more : Counts) → DoFit (plus counts more) → DoFit counts
front_fits counts more fits = record {
  writes = omega arith;
  flushes = omega arith;
  cancels = omega arith;
  bits = omega arith;
  refused = omega arith;
  taken = omega arith;
  success = omega arith;
  failed = omega arith;
  cancelled = omega arith;
}

back_fits : (counts more : Counts) → DoFit (plus counts more) → DoFit more
back_fits counts more fits = record {
  writes = omega arith;
  flushes = omega arith;
  cancels = omega arith;
  bits = omega arith;
  refused = omega arith;
  taken = omega arith;
  success = omega arith;
  failed = omega arith;
  cancelled = omega arith;
}

-- counts and others, added up to these
pub true_sum : (first second total counts more all : Counts) → AreTrueIfFit first counts →
    AreTrueIfFit second more → AreTrueIfFit (plus counts more) all → total ≡ plus first second →
    AreTrueIfFit total all
true_sum first second total counts more all counted others added is = λ fits.
    let whole : DoFit (plus first second) = subst DoFit is fits in
    let both : plus counts more ≡ plus first second =
    ap₂ plus (counted (front_fits first second whole)) (others (back_fits first second whole)) in
    added (subst DoFit (sym both) whole) ∙ both ∙ sym is

-- counts, to which others that are true are added
pub true_more : (first second total counts all : Counts) → AreTrueIfFit first counts →
    AreTrueIfFit (plus counts second) all → total ≡ plus first second → AreTrueIfFit total all
true_more first second total counts all counted added is =
    true_sum first second total counts second all counted (λ fits. refl) added is

-- what two lists of writers hand in is counted if what each hands in is
pub both_counted : {Dones Fault : Type 0} (writers : ℕ) (first second : Result Dones Fault)
    (items : Dones → List Handed) (all : List Handed) (counts more sum : Counts) →
    IsOkAnd first (λ dones. IsOkAnd second (λ more. all ≡ items dones ++ items more)) →
    IfOk first (λ dones. AreCounted writers (items dones) counts) →
    IfOk second (λ dones. AreCounted writers (items dones) more) →
    AreTrueIfFit (plus counts more) sum → AreCounted writers all sum
both_counted writers (Ok dones) (Ok others) items all counts more sum is counted told added =
    true_sum (counts_in writers (receipts_in (items dones))) (counts_in writers (receipts_in (items others)))
    (counts_in writers (receipts_in all)) counts more sum counted told added
    (ap (λ handed. counts_in writers (receipts_in handed)) is
    ∙ ap (counts_in writers) (flat_map-append (λ (one : Handed). one.receipts) (items dones) (items others))
    ∙ counts_in_both writers (receipts_in (items dones)) (receipts_in (items others)))
both_counted writers (Ok dones) (Err fault) items all counts more sum is counted told added = absurd is
both_counted writers (Err fault) second items all counts more sum is counted told added = absurd is

-- what one writer hands in alone is counted if its receipts are
pub one_counted : (writers : ℕ) (before dones : List Handed) (done : Handed) (counts : Counts) → before ≡ [] →
    dones ≡ before ++ done ∷ [] → AreTrueIfFit (counts_in writers done.receipts) counts →
    AreCounted writers dones counts
one_counted writers before dones done counts none pushed counted =
    let alone : dones ≡ done ∷ [] = pushed ∙ ap (λ others. others ++ done ∷ []) none in
    let its : receipts_in dones ≡ done.receipts =
    ap receipts_in alone ∙ flat_map-cons (λ (one : Handed). one.receipts) done [] ∙ append-nil done.receipts in
    subst (λ receipts. AreTrueIfFit (counts_in writers receipts) counts) (sym its) counted
