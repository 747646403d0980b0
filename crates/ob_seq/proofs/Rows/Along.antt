-- The moments and the settlements read off rows before and after.
use Rattle.ob_seq.proofs.Words.{[], ◌≡◌, ℕ, suc, ◌+◌, Bool, List, ◌∷◌, ◌++◌, length, append_assoc, append-nil, add-zero}
use Rattle.ob_seq.proofs.Words.{arith, zero-add, nat_tests, Option, Outcome, Row, counted_size, total, moment_of}
use Rattle.ob_seq.proofs.Words.{moments_along, outcome_of, settlement, settlements_from}

-- a count that stays gives no moment
pub moment_of_same : (notice : Bool) (count sum : ℕ) → moment_of notice count count sum ≡ []
moment_of_same notice count sum = grind (arith, nat_tests)

-- rows in front that stay give no moment
pub moments_along_same : (notice : Bool) (passed same before after : List Row) →
    moments_along notice passed (same ++ before) (same ++ after) ≡ moments_along notice (passed ++ same) before after
moments_along_same notice passed [] before after = rw append-nil
moments_along_same notice passed (row ∷ same) before after =
    rw (moment_of_same, moments_along_same notice (passed ++ row ∷ []) same before after, append_assoc)

-- a promise that stays is not settled anew
pub settlement_same : (id : ℕ) (outcome : Option Outcome) → settlement id outcome outcome ≡ []
settlement_same id outcome = grind arith

-- rows in front that stay settle nothing
pub settlements_from_same : (id : ℕ) (same before after : List Row) →
    settlements_from id (same ++ before) (same ++ after) ≡ settlements_from (id + length same) before after
settlements_from_same id [] before after = rw add-zero
settlements_from_same id (row ∷ same) before after =
    let next : suc id + length same ≡ id + length (row ∷ same) = omega arith in
    rw (settlement_same, settlements_from_same (suc id) same before after, next)

-- rows behind that stay give no moment
pub moments_behind : (notice : Bool) (passed rows : List Row) → moments_along notice passed rows rows ≡ []
moments_behind notice passed rows = rw append-nil at (moments_along_same notice passed rows [] [])

-- rows behind that stay settle nothing
pub settlements_behind : (id : ℕ) (rows : List Row) → settlements_from id rows rows ≡ []
settlements_behind id rows = rw append-nil at (settlements_from_same id rows [] [])

-- rows that stay give no moment and settle nothing
pub moments_of_same : (notice : Bool) (rows : List Row) → moments_along notice [] rows rows ≡ []
moments_of_same notice rows = moments_behind notice [] rows

pub settlements_of_same : (rows : List Row) → settlements_from 0 rows rows ≡ []
settlements_of_same rows = settlements_behind 0 rows

-- what changes behind rows that stay
module _ (rows after same was now : List Row) (rows_are : rows ≡ same ++ was) (after_is : after ≡ same ++ now) where
  pub moments_past : (notice : Bool) → moments_along notice [] rows after ≡ moments_along notice same was now
  moments_past notice = rw (rows_are, after_is) (moments_along_same notice [] same was now)

  pub settlements_past : settlements_from 0 rows after ≡ settlements_from (length same) was now
  settlements_past = rw (rows_are, after_is, settlements_from_same, zero-add)

-- what changes in one row
module _ (rows after before : List Row) (was row : Row) (behind : List Row) (rows_are : rows ≡ before ++ was ∷ behind)
    (after_is : after ≡ before ++ row ∷ behind) where
  pub moments_in_one : (notice : Bool) → moments_along notice [] rows after
      ≡ moment_of notice (counted_size was) (counted_size row) (total (before ++ row ∷ behind))
  moments_in_one notice =
      rw (rows_are, after_is, moments_along_same, moments_behind notice (before ++ row ∷ []) behind, append-nil)

  pub settlements_in_one : settlements_from 0 rows after
      ≡ settlement (length before) (outcome_of was.promise) (outcome_of row.promise)
  settlements_in_one = let none = settlements_behind (suc (length before)) behind in
      rw (rows_are, after_is, settlements_from_same, zero-add, none, append-nil)
