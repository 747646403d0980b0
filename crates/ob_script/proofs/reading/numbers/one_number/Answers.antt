use Rattle.std.proofs.Common.{◌≡◌, ◌∙◌, ◌-◌, ◌<◌, [], ◌∷◌, Ok, ap, arith, drop, drop-cons, get_or, length, length-drop, sym, take, take_all}
use Rattle.std.proofs.lemmas.List.{drop_all}
use Rattle.ob_script.specs.Reading.{words_after, all_numbers_in, before_numbers}
use Rattle.ob_script.proofs.Lines.{words_after-space}
use Rattle.ob_script.proofs.Numbers.{all_numbers_in-one}
use Rattle.ob_script.proofs.reading.numbers.one_number.Goals as goal

pub returns-clause-value : goal.returns-clause-value
returns-clause-value c =
    let after = c.args.after.now in
    let ranges = c.args.ranges.now in
    let range = get_or ranges 0 (record { least = 0; greatest = 0 }) in
    let bytes : 0 < length after = grind (arith, c.is_empty.ensures, c.if-is_empty.false) in
    let tail : take (length after - 1) (drop 1 after) ≡ drop 1 after =
    take_all (length after - 1) (drop 1 after) (omega (arith, length-drop 1 after)) in
    let read = rw tail at c.in_ok-number.ensures.value in
    let one : ranges ≡ range ∷ [] =
    drop-cons ranges 0 (record { least = 0; greatest = 0 }) (omega arith)
    ∙ ap (λ rest. range ∷ rest) (drop_all 1 ranges (omega arith)) in
    ap (λ asked. all_numbers_in asked (words_after after)) one
    ∙ ap (all_numbers_in (range ∷ [])) (words_after-space after bytes (c.requires.space bytes))
    ∙ all_numbers_in-one range (drop 1 after) c.in_ok-number.number read.0 read.1
    ∙ ap (λ number. before_numbers number (Ok [])) (sym c.hold.ensures)
