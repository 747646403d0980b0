use Rattle.std.proofs.Common.{◌≡◌, ◌+◌, ◌≤◌, ap, arith}
use Rattle.ob_history.specs.History.{most_records}
use Rattle.ob_pool.specs.Inside.{counts_of}
use Rattle.ob_pool.specs.Report.{left_of}
use Rattle.ob_pool.specs.declared.report.counts.Counts.{Counts}
use Rattle.ob_pool.proofs.Settled.{taken_fits_word, Tally, tallied}
use Rattle.ob_pool.proofs.Counted.{counts_fit_word}
use Rattle.ob_pool.proofs.report.counting.report_of.Goals as goal
use Rattle.ob_pool.proofs.report.counting.report_of.Goals.{After-records-records}

-- the numbers that are settled, once the records are at hand
tally : (c : goal.After-records-records) → Tally c.args.recorded.records
tally c = tallied c.args.recorded.settings c.args.recorded c.a_history_settles_each_promise_once.ensures.once
    c.a_history_tells_each_settled_promise.ensures.told c.a_history_tells_each_settled_promise.ensures.unknown
    c.records-records.ensures.legal c.records-records.ensures.bounded

-- the numbers are those of the history, which fit
counted : (c : After-records-records) → c.args.counts ≡ counts_of c.args.writers c.args.recorded.records
counted c =
    let recorded = c.args.recorded in
    let bounded = c.records-records.ensures.bounded in
    let taken = taken_fits_word recorded.records
    (λ one n. c.a_history_keeps_to_the_limits.ensures.removal recorded.settings recorded.records one n
    c.records-records.ensures.legal)
    (omega (arith, bounded.places, bounded.limit)) in
    c.requires (counts_fit_word c.args.writers recorded bounded taken (tally c))

-- the writes are what is left and what was settled
all_told : (c : After-records-records) →
    let counts = c.args.counts in
    (left_of c.args.recorded.records + (counts.success + counts.failed + counts.cancelled) ≡ counts.writes)
    × (counts.writes ≤ most_records)
all_told c =
    let all = tally c in
    let writes = ap (λ (counts : Counts). counts.writes) (counted c) in
    let success = ap (λ (counts : Counts). counts.success) (counted c) in
    let failed = ap (λ (counts : Counts). counts.failed) (counted c) in
    let cancelled = ap (λ (counts : Counts). counts.cancelled) (counted c) in
    (omega (arith, all.sum, all.left, success, failed, cancelled, writes), omega (arith, all.few, writes))

pub overflow_add-result : goal.overflow_add-result
overflow_add-result c = let told = all_told c.before in omega (arith, told.0, told.1)

pub overflow_add-result-2 : goal.overflow_add-result-2
overflow_add-result-2 c = let told = all_told c.before.before in omega (arith, told.0, told.1)

pub overflow_sub-result : goal.overflow_sub-result
overflow_sub-result c = let told = all_told c.before.before.before in omega (arith, told.0, told.1)

pub returns-clause-counted : goal.returns-clause-counted
returns-clause-counted c =
    let counts = counted c.before.before.before in
    record {
      writes = ap (λ (its : Counts). its.writes) counts;
      flushes = ap (λ (its : Counts). its.flushes) counts;
      cancels = ap (λ (its : Counts). its.cancels) counts;
      bits = ap (λ (its : Counts). its.bits) counts;
      refused = ap (λ (its : Counts). its.refused) counts;
      taken = ap (λ (its : Counts). its.taken) counts;
      success = ap (λ (its : Counts). its.success) counts;
      failed = ap (λ (its : Counts). its.failed) counts;
      cancelled = ap (λ (its : Counts). its.cancelled) counts;
      left = let told = all_told c.before.before.before in omega (arith, told.0);
    }
