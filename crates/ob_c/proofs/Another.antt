-- What a second handle that was kept is to the first.
use Rattle.std.proofs.Common.{◌≡◌, ℕ, refl, subst, sym, Some, None, Result, Ok, Err}
use Rattle.std.specs.Prelude.{Option, IfOk, OnErr, OnOk}
use Rattle.ob_shared_connection.specs.Calls.{IsAnother, IsButForShare}
use Rattle.ob_shared_connection.specs.Values.{HandleValue, sharing}
use Rattle.ob_c.specs.Sharing.{KeepsAnother, MakesAnother}

module _ {E : Type 0} (old new : HandleValue) where
  another_kept : (made : Result HandleValue E) (status : ℕ) (second : Option HandleValue) → IfOk made (λ other. IsAnother old other)
      → OnOk made (new ≡ sharing old) → OnErr made (IsButForShare old new) → KeepsAnother made status second
      → MakesAnother (Some old) None status (Some new) second
  another_kept (Err refused) status None other shares same kept = (kept, same)
  another_kept (Err refused) status (Some second) other shares same kept = absurd kept
  another_kept (Ok made) status None other shares same kept =
      (kept, subst (λ (value : HandleValue). IsButForShare old value) (sym shares) refl)
  another_kept (Ok made) status (Some second) other shares same kept =
      (kept.0, shares, subst (λ (value : HandleValue). IsAnother old value) (sym kept.1) other)

  -- the same of two places that hold one handle, and none
  pub another_of : (first before : Option HandleValue) (made : Result HandleValue E) (status : ℕ) (second : Option HandleValue)
      → first ≡ Some old → before ≡ None → IfOk made (λ other. IsAnother old other) → OnOk made (new ≡ sharing old)
      → OnErr made (IsButForShare old new) → KeepsAnother made status second → MakesAnother first before status (Some new) second
  another_of first before made status second is none other shares same kept =
      subst (λ (value : Option HandleValue). MakesAnother value before status (Some new) second) (sym is)
      (subst (λ (value : Option HandleValue). MakesAnother (Some old) value status (Some new) second) (sym none)
      (another_kept made status second other shares same kept))
