-- What is counted of all receipts that callers hand in is what is counted of the history.
use Rattle.std.proofs.Common.{◌≡◌, ℕ, suc, ◌+◌, ◌≤◌, Bool, true, false, List, [], ◌∷◌, ◌++◌, length, map, cond, eqb}
use Rattle.std.proofs.Common.{ltb, refl, sym, ap, ◌∙◌, arith, length-append}
use Rattle.std.proofs.lemmas.Bool.Decides.{nat_tests}
use Rattle.std.proofs.lemmas.List.{length-map, map-append}
use Rattle.std.proofs.lemmas.List.Concat.{flat_map-cons}
use Rattle.std.proofs.lemmas.List.Elements.{All-contains, All-head, All-tail, Contains-push}
use Rattle.std.proofs.lemmas.List.Sums.{count_by-le-length, length-filter, sum_by-cons, sum_by_push}
use Rattle.std.specs.Prelude.{nat_lt, filter}
use Rattle.std.specs.List.{All, range_with_len}
use Rattle.ob_history.specs.History.{records_of, record_of}
use Rattle.ob_history.specs.declared.record.Record.{Record}
use Rattle.ob_shared.specs.Calls.{HandsInAll, Handed, made_by}
use Rattle.ob_pool.specs.Inside.{AreNumbered, HaveHandedIn, counts_in, counts_of, plus, receipts_in}
use Rattle.ob_pool.specs.declared.report.counts.Counts.{Counts}
use Rattle.ob_pool.proofs.Counted.{counts_of_both}
use Rattle.ob_pool.proofs.Ending.{All-front}

-- the records of callers below this one
abbrev before : ℕ → List Record → List Record
before caller records = filter (λ one. nat_lt one.caller caller) records

abbrev caller_of : Handed → ℕ
caller_of one = one.maker.caller

-- a number below the next is below this one, or is this one
below_or_this : (a n : ℕ) → cond {A = ℕ} (ltb a (suc n)) 1 0 ≡ cond (ltb a n) 1 0 + cond (eqb a n) 1 0
below_or_this a n = grind (arith, nat_tests)

none_is_less : (a : ℕ) → ltb a 0 ≡ false
none_is_less a = grind (arith, nat_tests)

-- a number that is told of records, of two lists of them together as the sum of both
module _ (number : List Record → ℕ)
    (both : (records more : List Record) → number (records ++ more) ≡ number records + number more) where
  of_none : number [] ≡ 0
  of_none = let twice : number [] ≡ number [] + number [] = both [] [] in omega arith

  before_next : (caller : ℕ) (records : List Record) →
      number (before (suc caller) records) ≡ number (before caller records) + number (records_of caller records)
  before_next caller [] = omega (arith, of_none)
  before_next caller (one ∷ records) =
      by_caller (ltb one.caller (suc caller)) (ltb one.caller caller) (eqb one.caller caller)
      (below_or_this one.caller caller) (before_next caller records)
    where
      by_caller : (within less same : Bool) → cond {A = ℕ} within 1 0 ≡ cond less 1 0 + cond same 1 0 →
          number (before (suc caller) records)
          ≡ number (before caller records) + number (records_of caller records) →
          number (cond within (one ∷ before (suc caller) records) (before (suc caller) records))
          ≡ number (cond less (one ∷ before caller records) (before caller records))
          + number (cond same (one ∷ records_of caller records) (records_of caller records))
      by_caller true true true counts rest = absurd (omega (arith, counts))
      by_caller true true false counts rest =
          omega (arith, rest, both (one ∷ []) (before (suc caller) records), both (one ∷ []) (before caller records))
      by_caller true false true counts rest =
          omega (arith, rest, both (one ∷ []) (before (suc caller) records), both (one ∷ []) (records_of caller records))
      by_caller true false false counts rest = absurd (omega (arith, counts))
      by_caller false true same counts rest = absurd (omega (arith, counts))
      by_caller false false true counts rest = absurd (omega (arith, counts))
      by_caller false false false counts rest = rest

  before_first : (records : List Record) → number (before 0 records) ≡ 0
  before_first [] = of_none
  before_first (one ∷ records) =
      by_test (ltb one.caller 0) (none_is_less one.caller) (before_first records)
    where
      by_test : (is : Bool) → is ≡ false → number (before 0 records) ≡ 0 →
          number (cond is (one ∷ before 0 records) (before 0 records)) ≡ 0
      by_test true less rest = absurd (cc)
      by_test false less rest = rest

  -- of callers who are numbered from one on, and hand in all their records
  handed_from : (records : List Record) (caller : ℕ) (dones : List Handed) →
      map caller_of dones ≡ range_with_len caller (length dones) → All (HandsInAll records) dones →
      number (before (caller + length dones) records)
      ≡ number (before caller records) + number (map record_of (receipts_in dones))
  handed_from records caller [] is all =
      let here : caller + 0 ≡ caller = omega arith in
      omega (arith, ap (λ k. number (before k records)) here, of_none)
  handed_from records caller (one ∷ dones) is all =
      let first : one.maker.caller ≡ caller = cc in
      let others : map caller_of dones ≡ range_with_len (caller + 1) (length dones) = cc in
      let own : map record_of one.receipts ≡ records_of one.maker.caller records =
      All-head (HandsInAll records) one dones all in
      let its : number (map record_of one.receipts) ≡ number (records_of caller records) =
      ap number (own ∙ ap (λ k. records_of k records) first) in
      let split : number (map record_of (receipts_in (one ∷ dones)))
      ≡ number (map record_of one.receipts) + number (map record_of (receipts_in dones)) =
      ap (λ receipts. number (map record_of receipts)) (flat_map-cons (λ (done : Handed). done.receipts) one dones)
      ∙ ap number (map-append record_of one.receipts (receipts_in dones))
      ∙ both (map record_of one.receipts) (map record_of (receipts_in dones)) in
      let there : caller + suc (length dones) ≡ (caller + 1) + length dones = omega arith in
      let next : caller + 1 ≡ suc caller = omega arith in
      omega (
        arith,
        ap (λ k. number (before k records)) there,
        handed_from records (caller + 1) dones others (All-tail (HandsInAll records) one dones all),
        its,
        split,
        before_next caller records,
        ap (λ k. number (before k records)) next,
      )

  -- of writers and the caller behind them, whoever else there is
  handed_within : (writers : ℕ) (records : List Record) (dones : List Handed) (done : Handed) →
      AreNumbered writers dones done → All (HandsInAll records) (dones ++ done ∷ []) →
      number (before (suc writers) records)
      ≡ number (map record_of (receipts_in dones)) + number (map record_of done.receipts)
  handed_within writers records dones done numbered all =
      let own : map record_of done.receipts ≡ records_of done.maker.caller records =
      All-contains (HandsInAll records) (dones ++ done ∷ []) done all (Contains-push dones done) in
      let its : number (map record_of done.receipts) ≡ number (records_of writers records) =
      ap number (own ∙ ap (λ k. records_of k records) numbered.last) in
      let here : 0 + length dones ≡ writers = omega (arith, numbered.count) in
      omega (
        arith,
        before_next writers records,
        ap (λ k. number (before k records)) here,
        handed_from records 0 dones numbered.callers (All-front (HandsInAll records) dones (done ∷ []) all),
        before_first records,
        its,
      )

-- if as many pass a test as there are, all do
all_pass : (test : Record → Bool) (records : List Record) → length records ≤ length (filter test records) →
    filter test records ≡ records
all_pass test [] full = refl
all_pass test (one ∷ records) full = by_test (test one) full (λ enough. all_pass test records enough)
  where
    most : length (filter test records) ≤ length records
    most = omega (arith, length-filter test records, count_by-le-length test records)

    by_test : (is : Bool) →
        suc (length records) ≤ length (cond is (one ∷ filter test records) (filter test records)) →
        (length records ≤ length (filter test records) → filter test records ≡ records) →
        cond is (one ∷ filter test records) (filter test records) ≡ one ∷ records
    by_test true full rest = ap (λ others. one ∷ others) (rest (omega (arith, full)))
    by_test false full rest = absurd (omega (arith, full, most))

-- as many receipts as records were made
receipts_made : (handed : List Handed) → All (λ one. one.maker.made ≡ length one.receipts) handed →
    made_by handed ≡ length (receipts_in handed)
receipts_made [] all = refl
receipts_made (one ∷ handed) all =
    let first : one.maker.made ≡ length one.receipts =
    All-head (λ (one : Handed). one.maker.made ≡ length one.receipts) one handed all in
    omega (
      arith,
      sum_by-cons (λ (one : Handed). one.maker.made) one handed,
      first,
      ap length (flat_map-cons (λ (done : Handed). done.receipts) one handed),
      length-append one.receipts (receipts_in handed),
      receipts_made handed (All-tail (λ (one : Handed). one.maker.made ≡ length one.receipts) one handed all),
    )

-- counts, number by number
abbrev numbers_of : Counts → Counts
numbers_of counts = record {
  writes = counts.writes;
  flushes = counts.flushes;
  cancels = counts.cancels;
  bits = counts.bits;
  refused = counts.refused;
  taken = counts.taken;
  success = counts.success;
  failed = counts.failed;
  cancelled = counts.cancelled;
}

-- they are the same if all their numbers are
same_counts : (counts more : Counts) → counts.writes ≡ more.writes → counts.flushes ≡ more.flushes →
    counts.cancels ≡ more.cancels → counts.bits ≡ more.bits → counts.refused ≡ more.refused →
    counts.taken ≡ more.taken → counts.success ≡ more.success → counts.failed ≡ more.failed →
    counts.cancelled ≡ more.cancelled → numbers_of counts ≡ numbers_of more
same_counts counts more writes flushes cancels bits refused taken success failed cancelled = cc

module _ (writers : ℕ) (records : List Record) (dones : List Handed) (done : Handed)
    (numbered : AreNumbered writers dones done) (handed : HaveHandedIn records (dones ++ done ∷ [])) where
  -- all records are of those who hand in
  nobody_else : before (suc writers) records ≡ records
  nobody_else =
      let its : done.maker.made ≡ length done.receipts =
      All-contains (λ (one : Handed). one.maker.made ≡ length one.receipts) (dones ++ done ∷ []) done
      handed.made (Contains-push dones done) in
      all_pass (λ one. nat_lt one.caller (suc writers)) records
      (omega (
        arith,
        handed_within length (λ records more. length-append records more) writers records dones done numbered handed.own,
        length-map (receipts_in dones) record_of,
        length-map done.receipts record_of,
        handed.counted,
        sum_by_push (λ (one : Handed). one.maker.made) dones done,
        its,
        receipts_made dones (All-front (λ (one : Handed). one.maker.made ≡ length one.receipts) dones (done ∷ [])
            handed.made),
      ))

  -- so a number of the history is told by their receipts
  number_told : (number : List Record → ℕ) →
      ((records more : List Record) → number (records ++ more) ≡ number records + number more) →
      number records ≡ number (map record_of (receipts_in dones)) + number (map record_of done.receipts)
  number_told number both =
      ap number (sym nobody_else) ∙ handed_within number both writers records dones done numbered handed.own

  -- and so are its counts
  pub counts_told : counts_of writers records
      ≡ plus (counts_in writers (receipts_in dones)) (counts_in writers done.receipts)
  counts_told =
      same_counts (counts_of writers records)
      (plus (counts_in writers (receipts_in dones)) (counts_in writers done.receipts))
      (by_field (λ counts. counts.writes) (λ counts more. refl))
      (by_field (λ counts. counts.flushes) (λ counts more. refl))
      (by_field (λ counts. counts.cancels) (λ counts more. refl))
      (by_field (λ counts. counts.bits) (λ counts more. refl))
      (by_field (λ counts. counts.refused) (λ counts more. refl))
      (by_field (λ counts. counts.taken) (λ counts more. refl))
      (by_field (λ counts. counts.success) (λ counts more. refl))
      (by_field (λ counts. counts.failed) (λ counts more. refl))
      (by_field (λ counts. counts.cancelled) (λ counts more. refl))
    where
      by_field : (field : Counts → ℕ) →
          ((counts more : Counts) → field (plus counts more) ≡ field counts + field more) →
          field (counts_of writers records)
          ≡ field (counts_in writers (receipts_in dones)) + field (counts_in writers done.receipts)
      by_field field sums =
          number_told (λ records. field (counts_of writers records))
          (λ records more. ap field (counts_of_both writers records more)
          ∙ sums (counts_of writers records) (counts_of writers more))
