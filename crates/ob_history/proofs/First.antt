-- The first item that breaks what holds of each item, or what makes receipts a caller's own.
use Rattle.std.proofs.Common.{◌≡◌, ℕ, ◌+◌, ◌-◌, ◌<◌, ◌≤◌, List, [], ◌∷◌, ◌++◌, inl, inr, length, take, get_or, sym, ap}
use Rattle.std.proofs.Common.{◌∙◌, subst, arith, zero, suc}
use Rattle.std.specs.List.{All}
use Rattle.std.proofs.lemmas.Bool.{cases_eq}
use Rattle.std.proofs.lemmas.List.{get_or-take, get_or_read, length-take-le, take_all, take_more}
use Rattle.std.proofs.lemmas.List.Elements.{All-push, All-take}
use Rattle.std.proofs.lemmas.List.Quantifiers.{all_pairs_push}
use Rattle.ob_seq.specs.Rows.{Settings}
use Rattle.ob_history.specs.History.{IsFirstBreak, AreOwn, IsReceiptIn, IsSeenIn}
use Rattle.ob_history.specs.declared.receipt.Receipt.{Receipt}
use Rattle.ob_history.specs.declared.record.Record.{Record}
use Rattle.ob_history.specs.declared.seen.Seen.{Seen}

-- what holds of all items up to the end holds of the list
pub up_to_end : {X : Type 0} (property : List X → Type 0) (xs : List X) (i : ℕ) → length xs ≤ i →
    property (take i xs) → property xs
up_to_end property xs i past holds = subst property (take_all i xs past) holds

-- what holds of each item up to one holds of that one
pub last_of : {X : Type 0} (P : X → Type 0) (xs : List X) (i : ℕ) (d : X) → i < length xs →
    All P (take (i + 1) xs) → P (get_or xs i d)
last_of P xs i d within all =
    subst P (get_or-take (i + 1) xs i d (omega arith))
    (all i d (omega (arith, within, length-take-le (i + 1) xs (omega (arith, within)))))

-- the first item of which something does not hold
pub first_against : {X : Type 0} (P : X → Type 0) (xs : List X) (i : ℕ) (d : X) → i < length xs →
    All P (take i xs) → ¬ P (get_or xs i d) → IsFirstBreak (All P) xs i
first_against P xs i d within before against =
    record { within = within; before = before; broken = λ all. against (last_of P xs i d within all) }

-- if something holds of each item, no item is the first against it
pub never_against : {X : Type 0} (P : X → Type 0) (xs : List X) (i : ℕ) → IsFirstBreak (All P) xs i → All P xs → ⊥
never_against P xs i first all = first.broken (All-take P (i + 1) xs all)

-- if the first look names more records than there are, and all before one are of the history, that one is the first
pub none_before : (settings : Settings) (records : List Record) (seen : List Seen) (index : ℕ) (d : Seen) →
    index < length seen → All (IsSeenIn settings records) (take index seen) →
    All (λ one. length records < one.place) (take 1 seen) → length records < (get_or seen index d).place
none_before settings records seen zero d within before all =
    last_of (λ (one : Seen). length records < one.place) seen 0 d within all
none_before settings records seen (suc index) d within before all =
    let some : 0 < length seen = omega (arith, within) in
    let long : length (take (suc index) seen) ≡ suc index = length-take-le (suc index) seen (omega (arith, within)) in
    let first = subst (IsSeenIn settings records) (get_or-take (suc index) seen 0 d (omega arith))
    (before 0 d (omega (arith, long))) in
    let above = last_of (λ (one : Seen). length records < one.place) seen 0 d some all in
    absurd (omega (arith, above, first.within))

-- that a receipt's place is above that of the one before it
abbrev pub RisesAt : List Receipt → ℕ → Type 0
RisesAt receipts index =
    (other : Receipt) → 0 < index → (get_or receipts (index - 1) other).place < (get_or receipts index other).place

module _ (caller : ℕ) (records : List Record) (receipts : List Receipt) (index : ℕ) (receipt : Receipt) where
  -- one more receipt that is the caller's own
  pub own_more : index < length receipts → receipt ≡ get_or receipts index receipt →
      AreOwn caller records (take index receipts) →
      receipt.caller ≡ caller → IsReceiptIn records receipt → RisesAt receipts index →
      AreOwn caller records (take (index + 1) receipts)
  own_more within is own named kept rises =
      let before = take index receipts in
      let long : length before ≡ index = length-take-le index receipts (omega (arith, within)) in
      let longer : take (index + 1) receipts ≡ before ++ receipt ∷ [] =
      take_more receipts index receipt within ∙ ap (λ last. before ++ last ∷ []) (sym is) in
      let above : (k : ℕ) (d : Receipt) → k < length before → (get_or before k d).place < receipt.place = λ k d early.
      let under : k < index = omega (arith, early, long) in
      let up : (get_or receipts (index - 1) d).place < (get_or receipts index d).place =
      rises d (omega (arith, under)) in
      let last : (get_or receipts index d).place ≡ receipt.place =
      ap (λ (other : Receipt). other.place) (sym (get_or_read receipts index receipt within is d)) in
      let previous = get_or-take index receipts (index - 1) d (omega (arith, under)) in
      let to_previous : (get_or before k d).place ≤ (get_or receipts (index - 1) d).place =
      elim (cases_eq k (index - 1)) [
        | inl same ↦ (let its : (get_or before k d).place
            ≡ (get_or receipts (index - 1) d).place =
            ap (λ i. (get_or before i d).place) same
            ∙ ap (λ (other : Receipt). other.place) previous in omega (arith, its))
        | inr other ↦ (
            let below = own.rising k (index - 1) d (omega (arith, other, under)) (omega (arith, long, under)) in
            let its : (get_or before (index - 1) d).place ≡ (get_or receipts (index - 1) d).place =
            ap (λ (other : Receipt). other.place) previous in
            omega (arith, below, its))
      ] in
      omega (arith, to_previous, up, last) in
      subst (AreOwn caller records) (sym longer) (record {
        kept = All-push (IsReceiptIn records) before receipt own.kept kept;
        named = All-push (λ (receipt : Receipt). receipt.caller ≡ caller) before receipt own.named named;
        rising =
            all_pairs_push (λ (earlier later : Receipt). earlier.place < later.place) before receipt own.rising above;
      })

  -- one that is not
  pub own_no_more : index < length receipts → receipt ≡ get_or receipts index receipt →
      AreOwn caller records (take index receipts) →
      (receipt.caller ≡ caller → IsReceiptIn records receipt → RisesAt receipts index → ⊥) →
      IsFirstBreak (AreOwn caller records) receipts index
  own_no_more within is own against = record {
    within = within;
    before = own;
    broken = λ more. against
        (subst (λ (receipt : Receipt). receipt.caller ≡ caller) (sym is)
        (last_of (λ (receipt : Receipt). receipt.caller ≡ caller) receipts index receipt within more.named))
        (subst (IsReceiptIn records) (sym is) (last_of (IsReceiptIn records) receipts index receipt within more.kept))
        (λ other some.
        let long = length-take-le (index + 1) receipts (omega (arith, within)) in
        let up = more.rising (index - 1) index other (omega (arith, some)) (omega (arith, long)) in
        let earlier : (get_or (take (index + 1) receipts) (index - 1) other).place
        ≡ (get_or receipts (index - 1) other).place =
        ap (λ (other : Receipt). other.place) (get_or-take (index + 1) receipts (index - 1) other (omega arith)) in
        let later : (get_or (take (index + 1) receipts) index other).place ≡ (get_or receipts index other).place =
        ap (λ (other : Receipt). other.place) (get_or-take (index + 1) receipts index other (omega arith)) in
        omega (arith, up, earlier, later));
  }

-- a beginning of a caller's own receipts is its own
pub own_beginning : (caller : ℕ) (records : List Record) (receipts : List Receipt) (count : ℕ) →
    count ≤ length receipts → AreOwn caller records receipts → AreOwn caller records (take count receipts)
own_beginning caller records receipts count within own =
    let long : length (take count receipts) ≡ count = length-take-le count receipts within in
    record {
      kept = All-take (IsReceiptIn records) count receipts own.kept;
      named = All-take (λ (receipt : Receipt). receipt.caller ≡ caller) count receipts own.named;
      rising = λ i j d below early.
          let up = own.rising i j d below (omega (arith, early, long, within)) in
          let earlier : (get_or (take count receipts) i d).place ≡ (get_or receipts i d).place =
          ap (λ (receipt : Receipt). receipt.place)
          (get_or-take count receipts i d (omega (arith, below, early, long))) in
          let later : (get_or (take count receipts) j d).place ≡ (get_or receipts j d).place =
          ap (λ (receipt : Receipt). receipt.place) (get_or-take count receipts j d (omega (arith, early, long))) in
          omega (arith, up, earlier, later);
    }

-- so if receipts are a caller's own, none of them is the first that is not
pub never_foreign : (caller : ℕ) (records : List Record) (receipts : List Receipt) (index : ℕ) →
    IsFirstBreak (AreOwn caller records) receipts index → AreOwn caller records receipts → ⊥
never_foreign caller records receipts index first own =
    first.broken (own_beginning caller records receipts (index + 1) (omega (arith, first.within)) own)
