use Rattle.std.proofs.Common.{rules}
use Rattle.std.proofs.lemmas.Slice.Eq.{slice_eq-Decides}
use Rattle.ob_types.proofs.settlements.Settlements.is_same.Goals as goal

pub returns : goal.returns
returns c =
    rw (← c.as_slice.ensures, ← c.as_slice-2.ensures) (slice_eq-Decides (λ one other. search rules) _ _ _ c.eq.ensures)
