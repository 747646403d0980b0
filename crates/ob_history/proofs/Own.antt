-- A caller's own receipts are at most its records, and if they are as many, they are these.
use Rattle.std.proofs.Common.{◌≡◌, ℕ, ◌+◌, ◌<◌, List, [], ◌∷◌, ◌++◌, length, take, map, cond, ap, ◌∙◌, append-nil}
use Rattle.std.proofs.Common.{add-one, zero, suc, ◌≤◌, Bool, true, false, not, eqb, ◌⊎◌, inl, inr, refl, sym, subst}
use Rattle.std.proofs.Common.{append_assoc, arith}
use Rattle.std.proofs.lemmas.Bool.{eq-eqb, ne_eqb}
use Rattle.std.proofs.lemmas.List.{map-append, length_push}
use Rattle.std.proofs.lemmas.List.Elements.{filter-append, All-cons, All-head, All-nil, All-tail}
use Rattle.std.proofs.lemmas.Bool.Decides.{eqb_tells}
use Rattle.std.proofs.lemmas.List.Filters.{length-filter_both}
use Rattle.std.proofs.lemmas.List.Sums.{sum_by-cons}
use Rattle.std.specs.Prelude.{◌==◌, ◌≢◌, slice_index_or, Some, slice_get, filter, sum_by}
use Rattle.std.specs.List.{All, AllPairs}
use Rattle.ob_history.specs.History.{records_of, receipt_of, AreOwn, HoldAll, Holding, IsReceiptIn, record_of}
use Rattle.ob_history.specs.declared.receipt.Receipt.{Receipt}
use Rattle.ob_history.specs.declared.record.Record.{Record}
use Rattle.ob_history.proofs.Histories.{found_at, found_behind}

module _ (caller : ℕ) where
  abbrev pub own : List Record → List Receipt
  own records = map receipt_of (records_of caller records)

  with_next : (records : List Record) (index : ℕ) (one : Record) → index < length records →
      one ≡ slice_index_or records index one →
      own (take (index + 1) records) ≡ own (take index records) ++ own (one ∷ [])
  with_next records index one within is =
      ap (λ count. own (take count records)) (add-one index)
      ∙ ap own (found_at records index one within is).1
      ∙ ap (map receipt_of) (filter-append (λ (each : Record). each.caller == caller) (take index records) (one ∷ []))
      ∙ map-append receipt_of (records_of caller (take index records)) (records_of caller (one ∷ []))

  -- a record of the caller adds its receipt
  pub with_own : (records : List Record) (index : ℕ) (one : Record) → index < length records →
      one ≡ slice_index_or records index one → one.caller ≡ caller →
      own (take (index + 1) records) ≡ own (take index records) ++ receipt_of one ∷ []
  with_own records index one within is named =
      with_next records index one within is
      ∙ ap (λ flag. own (take index records) ++ map receipt_of (cond flag (one ∷ []) [])) (eq-eqb one.caller caller named)

  -- a record of another caller adds none
  pub with_another : (records : List Record) (index : ℕ) (one : Record) → index < length records →
      one ≡ slice_index_or records index one → one.caller ≢ caller →
      own (take (index + 1) records) ≡ own (take index records)
  with_another records index one within is named =
      with_next records index one within is
      ∙ ap (λ flag. own (take index records) ++ map receipt_of (cond flag (one ∷ []) [])) (ne_eqb one.caller caller named)
      ∙ append-nil (own (take index records))

-- nothing stands past a list's end
none_past : (records : List Record) (place : ℕ) (one : Record) → length records ≤ place →
    slice_get records place ≡ Some one → ⊥
none_past [] place one past is = absurd (cc)
none_past (first ∷ records) zero one past is = absurd (omega (arith, past))
none_past (first ∷ records) (suc place) one past is = none_past records place one (omega (arith, past)) is

module _ (caller : ℕ) where
  -- receipts of a caller's records from a place on, each above the one before it
  record IsNext (records : List Record) (from : ℕ) (receipt : Receipt) : Type 0 where
    above : from ≤ receipt.place
    kept : IsReceiptIn records receipt
    named : receipt.caller ≡ caller

  abbrev OwnFrom : List Record → ℕ → List Receipt → Type 0
  OwnFrom records from [] = Unit {0}
  OwnFrom records from (receipt ∷ receipts) = IsNext records from receipt × OwnFrom records (suc receipt.place) receipts

  own_from : (records : List Record) (from : ℕ) (receipts : List Receipt) → AreOwn caller records receipts →
      All (λ receipt. from ≤ receipt.place) receipts → OwnFrom records from receipts
  own_from records from [] own above = tt
  own_from records from (receipt ∷ receipts) own above =
      let here : 0 < length (receipt ∷ receipts) = omega arith in
      let rest : AreOwn caller records receipts = record {
        kept = λ k d within. own.kept (suc k) d (omega (arith, within));
        named = λ k d within. own.named (suc k) d (omega (arith, within));
        rising = λ i j d below within. own.rising (suc i) (suc j) d (omega (arith, below)) (omega (arith, within));
      } in (
        record { above = above 0 receipt here; kept = own.kept 0 receipt here; named = own.named 0 receipt here },
        own_from records (suc receipt.place) receipts rest
            (λ k d within. omega (arith, own.rising 0 (suc k) d (omega arith) (omega (arith, within)))),
      )

  -- receipts are at most as many as these records, and are these if they are as many
  record AreWithin (records : List Record) (receipts : List Receipt) : Type 0 where
    fits : length receipts ≤ length records
    all : length receipts ≡ length records → map record_of receipts ≡ records

  none_within : (records : List Record) → AreWithin records []
  none_within [] = record { fits = omega arith; all = λ same. refl }
  none_within (one ∷ records) = record { fits = omega arith; all = λ same. absurd (omega (arith, same)) }

  -- one more record, of whichever caller, that is not among the receipts
  passed : (named : Bool) (one : Record) (records : List Record) (receipts : List Receipt) →
      AreWithin records receipts → AreWithin (cond named (one ∷ records) records) receipts
  passed true one records receipts within = record {
    fits = omega (arith, within.fits);
    all = λ same. absurd (omega (arith, same, within.fits));
  }
  passed false one records receipts within = within

  -- one more record of the caller, of which the first receipt is
  taken : (named : Bool) (one : Record) (records : List Record) (receipt : Receipt) (receipts : List Receipt) →
      named ≡ true → record_of receipt ≡ one →
      AreWithin records receipts → AreWithin (cond named (one ∷ records) records) (receipt ∷ receipts)
  taken true one records receipt receipts named same within = record {
    fits = omega (arith, within.fits);
    all = λ lengths. ap (λ first. first ∷ map record_of receipts) same
        ∙ ap (λ rest. one ∷ rest) (within.all (omega (arith, lengths)));
  }
  taken false one records receipt receipts named same within = absurd (cc)

  at_or_above : (low place : ℕ) → low ≤ place → (place ≡ low) ⊎ (suc low ≤ place)
  at_or_above zero zero above = inl refl
  at_or_above zero (suc place) above = inr (omega arith)
  at_or_above (suc low) zero above = absurd (omega (arith, above))
  at_or_above (suc low) (suc place) above =
      elim (at_or_above low place (omega (arith, above)))
      [ inl same ↦ inl (ap suc same) | inr more ↦ inr (omega (arith, more)) ]

  own_within : (before more : List Record) (receipts : List Receipt) →
      OwnFrom (before ++ more) (length before) receipts → AreWithin (records_of caller more) receipts
  own_within before more [] own = none_within (records_of caller more)
  own_within before [] (receipt ∷ receipts) own =
      absurd (none_past (before ++ []) receipt.place (record_of receipt)
      (omega (arith, own.0.above, ap length (append-nil before))) own.0.kept)
  own_within before (one ∷ more) (receipt ∷ receipts) own =
      let further = before ++ one ∷ [] in
      let same : before ++ one ∷ more ≡ further ++ more = sym (append_assoc before (one ∷ []) more) in
      let longer : suc (length before) ≡ length further = omega (arith, length_push before one) in
      elim (at_or_above (length before) receipt.place own.0.above) [
        | inl here ↦
            let found : record_of receipt ≡ one = (
            let kept : slice_get (before ++ one ∷ more) (length before) ≡ Some (record_of receipt) =
            subst (λ place. slice_get (before ++ one ∷ more) place ≡ Some (record_of receipt)) here own.0.kept in
            let there = found_behind before one more in
            cc) in
            let rest =
            own_within further more receipts (subst (λ records. OwnFrom records (length further) receipts) same
            (subst (λ from. OwnFrom (before ++ one ∷ more) from receipts) (ap suc here ∙ longer) own.1)) in
            let named : eqb one.caller caller ≡ true =
            eq-eqb one.caller caller (ap (λ (other : Record). other.caller) (sym found) ∙ own.0.named) in
            taken (eqb one.caller caller) one (records_of caller more) receipt receipts named found rest
        | inr above ↦
            let later : OwnFrom (before ++ one ∷ more) (suc (length before)) (receipt ∷ receipts) =
            (record { above = above; kept = own.0.kept; named = own.0.named }, own.1) in
            let rest =
            own_within further more (receipt ∷ receipts)
            (subst (λ records. OwnFrom records (length further) (receipt ∷ receipts)) same
            (subst (λ from. OwnFrom (before ++ one ∷ more) from (receipt ∷ receipts)) longer later)) in
            passed (eqb one.caller caller) one (records_of caller more) (receipt ∷ receipts) rest
      ]

  -- a caller's own receipts
  own_are_within : (records : List Record) (receipts : List Receipt) → AreOwn caller records receipts →
      AreWithin (records_of caller records) receipts
  own_are_within records receipts own =
      own_within [] records receipts (own_from records 0 receipts own (λ k d within. omega arith))

-- whether a record is not of a caller
abbrev is_of_another : ℕ → Record → Bool
is_of_another caller one = not (eqb one.caller caller)

-- the records of a caller stay if those of another are left out
left_for_another : (caller other : ℕ) → caller ≢ other → (records : List Record) →
    records_of other records ≡ records_of other (filter (is_of_another caller) records)
left_for_another caller other apart [] = refl
left_for_another caller other apart (one ∷ records) =
    let rest = left_for_another caller other apart records in
    elim (eqb_tells one.caller caller) [
      | inl its ↦
          let not_other : eqb one.caller other ≡ false = ne_eqb one.caller other (λ is. apart (sym its.1 ∙ is)) in
          rw (its.0, not_other) rest
      | inr not_its ↦ rw not_its.0 (ap (λ left. cond (eqb one.caller other) (one ∷ left) left) rest)
    ]

-- how many records a caller has
abbrev its_records : List Record → Holding → ℕ
its_records records one = length (records_of one.caller records)

-- how many records the callers have together
abbrev records_held : List Record → List Holding → ℕ
records_held records holdings = sum_by (its_records records) holdings

-- how many receipts a caller holds
abbrev its_receipts : Holding → ℕ
its_receipts one = length one.receipts

left_for_others : (caller : ℕ) (records : List Record) (holdings : List Holding) →
    All (λ one. caller ≢ one.caller) holdings →
    records_held records holdings ≡ records_held (filter (is_of_another caller) records) holdings
left_for_others caller records [] apart = refl
left_for_others caller records (one ∷ holdings) apart =
    let first =
    left_for_another caller one.caller
    (All-head (λ (one : Holding). caller ≢ one.caller) one holdings apart) records in
    let rest =
    left_for_others caller records holdings
    (All-tail (λ (one : Holding). caller ≢ one.caller) one holdings apart) in
    let left = filter (is_of_another caller) records in
    sum_by-cons (its_records records) one holdings
    ∙ ap (λ (its : List Record). length its + records_held records holdings) first
    ∙ ap (λ others. its_records left one + others) rest
    ∙ sym (sum_by-cons (its_records left) one holdings)

-- distinct callers have together at most all records
held_at_most : (records : List Record) (holdings : List Holding) →
    AllPairs (λ one other. one.caller ≢ other.caller) holdings → records_held records holdings ≤ length records
held_at_most records [] distinct = omega arith
held_at_most records (one ∷ holdings) distinct =
    let left = filter (is_of_another one.caller) records in
    let apart : All (λ (other : Holding). one.caller ≢ other.caller) holdings =
    λ k d within. distinct 0 (suc k) d (omega arith) (omega (arith, within)) in
    let rest =
    held_at_most left holdings
    (λ i j d below within. distinct (suc i) (suc j) d (omega (arith, below)) (omega (arith, within))) in
    let both =
    length-filter_both (λ (other : Record). eqb other.caller one.caller) (is_of_another one.caller)
    (λ _. refl) records in
    omega (
      arith,
      sum_by-cons (its_records records) one holdings,
      left_for_others one.caller records holdings apart,
      rest,
      both,
    )

-- that a caller holds the receipts of all its records
abbrev pub HoldsIts : List Record → Holding → Type 0
HoldsIts records one = map record_of one.receipts ≡ records_of one.caller records

-- receipts of their own are at most as many as these callers have records, and all of these if they are as many
record AreAmong (records : List Record) (holdings : List Holding) : Type 0 where
  fits : sum_by its_receipts holdings ≤ records_held records holdings
  all : sum_by its_receipts holdings ≡ records_held records holdings → All (HoldsIts records) holdings

own_are_among : (records : List Record) (holdings : List Holding) →
    All (λ one. AreOwn one.caller records one.receipts) holdings → AreAmong records holdings
own_are_among records [] own = record { fits = omega arith; all = λ same. All-nil (HoldsIts records) }
own_are_among records (one ∷ holdings) own =
    let first =
    own_are_within one.caller records one.receipts
    (All-head (λ (one : Holding). AreOwn one.caller records one.receipts) one holdings own) in
    let rest =
    own_are_among records holdings
    (All-tail (λ (one : Holding). AreOwn one.caller records one.receipts) one holdings own) in
    let receipts = sum_by-cons its_receipts one holdings in
    let records_too = sum_by-cons (its_records records) one holdings in
    record {
      fits = omega (arith, receipts, records_too, first.fits, rest.fits);
      all = λ same. All-cons (HoldsIts records) one holdings
          (first.all (omega (arith, receipts, records_too, same, first.fits, rest.fits)))
          (rest.all (omega (arith, receipts, records_too, same, first.fits, rest.fits)));
    }

-- distinct callers that hold together as many receipts of their own as there are records hold all of theirs
pub all_are_held : (records : List Record) (holdings : List Holding) → HoldAll records holdings →
    All (HoldsIts records) holdings
all_are_held records holdings held =
    let among = own_are_among records holdings held.own in
    among.all (omega (arith, held.as_many, among.fits, held_at_most records holdings held.distinct))
