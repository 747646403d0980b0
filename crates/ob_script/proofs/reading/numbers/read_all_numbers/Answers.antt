use Rattle.std.proofs.Common.{◌≡◌, ◌<◌, refl, arith, length}
use Rattle.ob_script.specs.Reading.{words_after}
use Rattle.ob_script.proofs.Lines.{length-words_after, all_numbers_in-few, all_numbers_in-many, all_numbers_in-exact}
use Rattle.ob_script.proofs.reading.numbers.read_all_numbers.Goals as goal

pub returns-then-count-ranges : goal.returns-then-count-ranges
returns-then-count-ranges c =
    let words = words_after c.args.after.now in
    let count = length-words_after c.args.after.now in
    let few : length words < length c.args.ranges.now = omega arith in
    rw (all_numbers_in-few c.args.ranges.now words few) refl

pub returns-then-ranges-count : goal.returns-then-ranges-count
returns-then-ranges-count c =
    let words = words_after c.args.after.now in
    let count = length-words_after c.args.after.now in
    let many : length c.args.ranges.now < length words = omega arith in
    rw (all_numbers_in-many c.args.ranges.now words many) refl

pub read_numbers-requires-clause-each : goal.read_numbers-requires-clause-each
read_numbers-requires-clause-each c = omega (arith, length-words_after c.args.after.now)

pub returns : goal.returns
returns c =
    let words = words_after c.args.after.now in
    let count = length-words_after c.args.after.now in
    let exact : length words ≡ length c.args.ranges.now = omega arith in
    rw (all_numbers_in-exact c.args.ranges.now words exact) c.read_numbers.ensures
