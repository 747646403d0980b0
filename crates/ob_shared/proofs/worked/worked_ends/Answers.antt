use Rattle.std.proofs.Common.{◌≡◌, ℕ, zero, suc, ◌<◌, [], ◌∷◌, get_or, refl, arith}
use Rattle.ob_shared.specs.Calls.{Handed}
use Rattle.ob_shared.specs.Worked.{whole_writer}
use Rattle.ob_shared.proofs.worked.worked_ends.Goals as goal

writer_has_no_look : (k : ℕ) (d : Handed) → k < 1 → (get_or (whole_writer ∷ []) k d).seen ≡ []
writer_has_no_look zero d within = refl
writer_has_no_look (suc k) d within = absurd (omega (arith, within))

pub returns-clause-looks : goal.returns-clause-looks
returns-clause-looks c = (
  writer_has_no_look,
  λ none. absurd (cc (none 1 whole_writer (omega arith))),
)
