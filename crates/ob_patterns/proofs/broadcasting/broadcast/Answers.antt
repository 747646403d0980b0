use native.Mathlib.Numerals.{unary_clauses}
use Rattle.std.proofs.Common.{arith, get_or}
use Rattle.std.proofs.lemmas.Option.{slice_get-get_or}
use Rattle.ob_patterns.proofs.Handing.{one_handed}
use Rattle.ob_patterns.proofs.broadcasting.broadcast.Goals.{in-Ok, in-Err-Unwritable, in-Err-Refused}
use Rattle.ob_patterns.proofs.broadcasting.broadcast.Goals as goal

pub loop-connection-preserved : goal.loop-connection-preserved
loop-connection-preserved c =
    let now = c.loop-connection in
    let item = get_or now.connections now.connection-index c.connection-item.result in
    let found = slice_get-get_or now.connections now.connection-index c.connection-item.result (omega arith) in
    one_handed item c.hand.new.connection c.hand.result now.invariant found c.hand.ensures (elim c.match-hand.branch [
      | in-Ok w ↦ rw w.in-Ok.is (simp unary_clauses (simp unary_clauses at w.reached-is))
      | in-Err-Unwritable w ↦ rw (w.in-Err-Unwritable.is, w.in-Err-Unwritable.field-0-is) (simp unary_clauses (simp unary_clauses at w.reached-is))
      | in-Err-Refused w ↦ rw (w.in-Err-Refused.is, w.in-Err-Refused.field-0-is) (simp unary_clauses (simp unary_clauses at w.reached-is))
    ])
