-- What a second cover that was kept is to the first.
use Rattle.std.proofs.Common.{◌≡◌, ℕ, ◌/◌, ◌∙◌, refl, subst, sym, Some, None, Result, Ok, Err}
use Rattle.std.specs.Prelude.{Option, IfOk, OnErr}
use Rattle.ob_covered.specs.Cover.{CoverValue, left_of, given_by}
use Rattle.ob_c.specs.Budgets.{IsButForSeats, KeepsShare, Shares}

module _ {E : Type 0} (old new : CoverValue) where
  share_kept : (made : Result CoverValue E) (status : ℕ) (second : Option CoverValue)
      → IfOk made (λ other. other ≡ given_by (old.seat.account.seats / 1024) old)
      → IfOk made (λ _. new ≡ left_of (old.seat.account.seats / 1024) old) → OnErr made (new ≡ old)
      → KeepsShare made status second → Shares (Some old) None status (Some new) second
  share_kept (Err refused) status None given left same kept =
      (kept, subst (λ (value : CoverValue). IsButForSeats old value) (sym same) refl)
  share_kept (Err refused) status (Some second) given left same kept = absurd kept
  share_kept (Ok made) status None given left same kept =
      (kept, subst (λ (value : CoverValue). IsButForSeats old value) (sym left) refl)
  share_kept (Ok made) status (Some second) given left same kept = (kept.0, left, kept.1 ∙ given)

  -- the same of two handles that hold one cover, and none
  pub share_of : (first before : Option CoverValue) (made : Result CoverValue E) (status : ℕ) (second : Option CoverValue)
      → first ≡ Some old → before ≡ None → IfOk made (λ other. other ≡ given_by (old.seat.account.seats / 1024) old)
      → IfOk made (λ _. new ≡ left_of (old.seat.account.seats / 1024) old) → OnErr made (new ≡ old)
      → KeepsShare made status second → Shares first before status (Some new) second
  share_of first before made status second is none given left same kept =
      subst (λ (value : Option CoverValue). Shares value before status (Some new) second) (sym is)
      (subst (λ (value : Option CoverValue). Shares (Some old) value status (Some new) second) (sym none)
      (share_kept made status second given left same kept))
