-- Facts of results.
use Rattle.std.proofs.Common.{Result, Ok, Err, OnOk}
use Rattle.std.specs.Prelude.{IfErr}

-- a fact for one that is there follows from another
pub OnOk-follows : {T E P Q : Type 0} (r : Result T E) → (P → Q) → OnOk r P → OnOk r Q
OnOk-follows (Ok x) f p = f p
OnOk-follows (Err e) f p = p

-- what each fault is follows from what it is
pub IfErr-follows : {T E : Type 0} {P Q : E → Type 0} (r : Result T E) → ((e : E) → P e → Q e) → IfErr r P → IfErr r Q
IfErr-follows (Ok x) f p = p
IfErr-follows (Err e) f p = f e p
