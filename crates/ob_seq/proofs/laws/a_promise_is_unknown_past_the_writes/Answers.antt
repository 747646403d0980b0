use Rattle.ob_seq.proofs.Words.{◌≡◌, ◌≤◌, ℕ, zero, suc, List, [], ◌∷◌, length, arith, None, slice_get_past, promise_at}
use Rattle.ob_seq.proofs.Words.{Row}
use Rattle.ob_seq.proofs.Rows.EachRow.{row_for_each_write}
use Rattle.ob_seq.proofs.laws.a_promise_is_unknown_past_the_writes.Goals as goal

-- if there is no promise there is no row
no_row : (rows : List Row) (id : ℕ) → promise_at rows id ≡ None → length rows ≤ id
no_row [] id none = omega arith
no_row (row ∷ rows) zero none = absurd (cc)
no_row (row ∷ rows) (suc id) none = omega (arith, no_row rows id none)

pub returns : goal.returns
returns c = grind (arith, row_for_each_write, no_row, slice_get_past)
