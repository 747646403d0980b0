-- What a history tells of a promise whose state is known, and what stands in it and is foreign to it, of all that
-- callers hand in.
use Rattle.std.proofs.Common.{◌≡◌, ℕ, true, List, subst, ◌≢◌, ◌+◌, ◌<◌, ◌≤◌, ◌==◌, Bool, false, [], ◌∷◌, length, map}
use Rattle.std.proofs.Common.{take, refl, get_or, sym, ap, ◌∙◌, arith, length-take}
use Rattle.std.proofs.lemmas.Option.{get_or_from_slice_get, slice_get_within, slice_get_read}
use Rattle.std.proofs.lemmas.Bool.{eqb-true}
use Rattle.std.proofs.lemmas.List.{get_or-take, get_or-map, length-map}
use Rattle.std.proofs.lemmas.List.Elements.{All-take, All-map, All-head, All-tail}
use Rattle.std.proofs.lemmas.List.Sums.{sum_by-cons}
use Rattle.std.specs.Prelude.{Some, slice_get, Option, None, not, option_map, sum_by}
use Rattle.std.specs.List.{All, AllPairs}
use Rattle.ob_types.specs.declared.promise.PromiseId.{PromiseId}
use Rattle.ob_history.specs.History.{settles, IsFirstBreak, AreOwn, Holding, IsReceiptIn, IsSeenIn}
use Rattle.ob_history.specs.declared.record.Record.{Record}
use Rattle.ob_seq.specs.Rows.{Settings}
use Rattle.ob_history.specs.declared.receipt.Receipt.{Receipt}
use Rattle.ob_history.proofs.First.{first_against}
use Rattle.ob_history.proofs.Own.{HoldsIts, all_are_held}
use Rattle.ob_history.proofs.Told.{none_found}
use Rattle.ob_shared.specs.Calls.{IsCopiedFreely, IsToldFreely, Handed, LacksShare, made_by, HandsInAll, StandsIn}
use Rattle.ob_shared.specs.Calls.{first_short, is_short, BreaksAt, IsFirstForeign, IsForeign}
use Rattle.ob_shared.proofs.HandedIn.{each_handed_in_once}

-- if what settles a promise is copied without an allocation, so is a record that stands in the history and settles it
pub copied_freely : (records : List Record) (id : PromiseId) (place : ℕ) (one : Record) →
    slice_get records place ≡ Some one → settles id one ≡ true → IsToldFreely records id → IsCopiedFreely one
copied_freely records id place one there settled freely =
    subst (λ (other : Record). settles id other ≡ true → IsCopiedFreely other)
    (get_or_from_slice_get records place one one there)
    (freely place one (slice_get_within records place one there)) settled

-- a list breaks a property at the place that the item names with which it first does
pub breaks_at : {A : Type 0} (property : List A → Type 0) (place_of : A → ℕ) (items : List A) (index : ℕ) (item : A) →
    IsFirstBreak property items index → item ≡ get_or items index item →
    BreaksAt property place_of items (place_of item)
breaks_at property place_of items index item first is = record {
  index = index;
  item = item;
  first = first;
  found = slice_get_read items (length items) index item refl first.within is;
  named = refl;
}

module _ (settings : Settings) (records : List Record) where
  -- a beginning of a caller's own receipts is its own
  own_beginning : (caller count : ℕ) (receipts : List Receipt) → AreOwn caller records receipts →
      AreOwn caller records (take count receipts)
  own_beginning caller count receipts own = record {
    kept = All-take (IsReceiptIn records) count receipts own.kept;
    named = All-take (λ (receipt : Receipt). receipt.caller ≡ caller) count receipts own.named;
    rising = λ i j d below within.
        let short = length-take count receipts in
        let one = get_or-take count receipts i d (omega (arith, below, within, short)) in
        let other = get_or-take count receipts j d (omega (arith, within, short)) in
        omega (
          arith,
          ap (λ (receipt : Receipt). receipt.place) one,
          ap (λ (receipt : Receipt). receipt.place) other,
          own.rising i j d below (omega (arith, within, short)),
        );
  }

  -- if a list has an item that breaks it, what was handed in does not stand
  pub foreign_receipt : (one : Handed) (index : ℕ) →
      IsFirstBreak (AreOwn one.maker.caller records) one.receipts index → ¬ StandsIn settings records one
  foreign_receipt one index break = λ stands. break.broken
      (own_beginning one.maker.caller (index + 1) one.receipts stands.own)

  pub foreign_told : (one : Handed) (index : ℕ) → IsFirstBreak (All (IsReceiptIn records)) one.told index →
      ¬ StandsIn settings records one
  foreign_told one index break = λ stands. break.broken
      (All-take (IsReceiptIn records) (index + 1) one.told stands.told)

  pub foreign_seen : (one : Handed) (index : ℕ) → IsFirstBreak (All (IsSeenIn settings records)) one.seen index →
      ¬ StandsIn settings records one
  foreign_seen one index break = λ stands. break.broken
      (All-take (IsSeenIn settings records) (index + 1) one.seen stands.seen)

  -- if what one hands in does not stand, and all before it does, its first foreign item is the first of all
  pub foreign_of_all : (handed : List Handed) (index : ℕ) (one : Handed) (place : ℕ) → index < length handed →
      one ≡ get_or handed index one → All (StandsIn settings records) (take index handed) →
      ¬ StandsIn settings records one → IsFirstForeign settings records one place →
      IsForeign settings records handed one.maker.caller place
  foreign_of_all handed index one place within is before against item = record {
    index = index;
    one = one;
    first = first_against (StandsIn settings records) handed index one within before
        (subst (λ it. ¬ StandsIn settings records it) is against);
    found = slice_get_read handed (length handed) index one refl within is;
    who = refl;
    item = item;
  }

  abbrev holding_of : Handed → Holding
  holding_of one = record { caller = one.maker.caller; receipts = one.receipts }

  distinct_holdings : (handed : List Handed) → AllPairs (λ one other. one.maker.caller ≢ other.maker.caller) handed →
      AllPairs (λ (one other : Holding). one.caller ≢ other.caller) (map holding_of handed)
  distinct_holdings [] apart = λ i j d below within. absurd (omega (arith, within))
  distinct_holdings (first ∷ handed) apart = λ i j d below within same.
      let long = length-map (first ∷ handed) holding_of in
      let one = get_or-map holding_of (first ∷ handed) i first d (omega (arith, below, within, long)) in
      let other = get_or-map holding_of (first ∷ handed) j first d (omega (arith, within, long)) in
      apart i j first below (omega (arith, within, long))
      (sym (ap (λ (holding : Holding). holding.caller) one) ∙ same
      ∙ ap (λ (holding : Holding). holding.caller) other)

  nothing_mapped : {X Y : Type 0} (f : X → Y) (found : Option X) → option_map f found ≡ None → found ≡ None
  nothing_mapped f None is = refl
  nothing_mapped f (Some x) is = absurd (cc is)

  not_short : (a b : ℕ) → not (a == b) ≡ false → a ≡ b
  not_short a b is = by_cases (a == b) refl is
    where
      by_cases : (same : Bool) → (a == b) ≡ same → not same ≡ false → a ≡ b
      by_cases true same is = eqb-true a b same
      by_cases false same is = absurd (cc is)

  as_many_receipts : (handed : List Handed) → All (λ one. is_short one ≡ false) handed →
      sum_by (λ (holding : Holding). length holding.receipts) (map holding_of handed) ≡ made_by handed
  as_many_receipts [] full = refl
  as_many_receipts (one ∷ handed) full =
      let first = not_short _ _ (All-head (λ (one : Handed). is_short one ≡ false) one handed full) in
      let rest = as_many_receipts handed (All-tail (λ (one : Handed). is_short one ≡ false) one handed full) in
      omega (
        arith,
        first,
        rest,
        sum_by-cons (λ (holding : Holding). length holding.receipts) (holding_of one)
            (map holding_of handed),
        sum_by-cons (λ (one : Handed). one.maker.made) one handed,
      )

  -- if each caller hands in once, as many receipts as it made records, and all stands, these are all its records
  pub all_is_handed_in : (callers : ℕ) (handed : List Handed) → ¬ LacksShare callers handed →
      length handed ≤ callers → first_short handed ≡ None →
      made_by handed ≡ length records → All (StandsIn settings records) handed → All (HandsInAll records) handed
  all_is_handed_in callers handed complete few full counted stands =
      let none_short = none_found is_short handed (nothing_mapped (λ (one : Handed). one.maker.caller) _ full) in
      let held = all_are_held records (map holding_of handed) (record {
        distinct = distinct_holdings handed (each_handed_in_once callers handed complete few);
        own = All-map (λ (holding : Holding). AreOwn holding.caller records holding.receipts) holding_of handed
            (λ k d within. (stands k d within).own);
        as_many = as_many_receipts handed none_short ∙ counted;
      }) in
      λ k d within. subst (HoldsIts records) (get_or-map holding_of handed k d (holding_of d) within)
      (held k (holding_of d) (omega (arith, within, length-map handed holding_of)))
