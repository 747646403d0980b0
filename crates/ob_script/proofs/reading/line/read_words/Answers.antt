use Rattle.std.proofs.Common.{ap, ◌∙◌}
use Rattle.std.specs.Prelude.{ok_or}
use Rattle.ob_script.specs.declared.reading.fault.LineFault.TheVariants.{Misplaced}
use Rattle.ob_script.proofs.Numbers.{held-within}
use Rattle.ob_script.proofs.Lines.{asked_by-Ok, asked_by-Err}
use Rattle.ob_script.proofs.reading.line.read_words.Goals as goal

pub line-requires-after_bounds : goal.line-requires-after_bounds
line-requires-after_bounds g c κs within =
    let kind = g.W.FirstWord.table.kind_of c.args.word in
    let held = rw c.ranges-2.ensures.value at c.in-Ok.ensures in held-within kind.ranges _ _ held

pub returns-in-Ok : goal.returns-in-Ok
returns-in-Ok g c =
    let kind = g.W.FirstWord.table.kind_of c.args.word in
    let held = rw c.ranges-2.ensures.value at c.in-Ok.ensures in
    c.ok_or.ensures.value ∙ ap (λ asked. ok_or asked Misplaced) c.line.ensures ∙ asked_by-Ok kind.asked _ _ held

pub returns-in-Err : goal.returns-in-Err
returns-in-Err g c =
    let kind = g.W.FirstWord.table.kind_of c.args.word in
    let held = rw c.ranges-2.ensures.value at c.in-Err.ensures in
    asked_by-Err kind.asked _ _ held
