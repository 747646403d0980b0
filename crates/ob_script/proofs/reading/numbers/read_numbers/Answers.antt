use Rattle.std.proofs.Common.{◌≡◌, ◌+◌, ◌-◌, ◌<◌, ◌≢◌, ◌∷◌, ◌∙◌, sym, ap, Ok, arith, length, length-drop, length-set}
use Rattle.std.proofs.Common.{take, take_all, drop, get_or-set_other}
use Rattle.std.proofs.lemmas.List.{take_more_set}
use Rattle.ob_script.specs.Reading.{words_after, numbers_in, before_numbers}
use Rattle.ob_script.proofs.Lines.{words_after-space, bytes_of_words}
use Rattle.ob_script.proofs.Numbers.{behind, behind-Ok, numbers_in-drop}
use Rattle.ob_script.proofs.reading.numbers.read_numbers.Goals as goal

pub loop-place-preserved : goal.loop-place-preserved
loop-place-preserved c =
    let rest = c.loop-place.rest.now in
    let others = c.first_word.result.1.now in
    let word = c.first_word.result.0.now in
    let i = c.loop-place.place in
    let left : 0 < length (words_after rest) = omega arith in
    let bytes : 0 < length rest = bytes_of_words rest left in
    let tail : take (length rest - 1) (drop 1 rest) ≡ drop 1 rest =
    take_all (length rest - 1) (drop 1 rest) (omega (arith, length-drop 1 rest)) in
    let split : words_after rest ≡ word ∷ words_after others =
    words_after-space rest bytes (c.loop-place.invariant.space bytes)
    ∙ rw tail at c.first_word.ensures.words in
    let fewer = ap length split in
    let rest_read = numbers_in (drop (i + 1) c.args.ranges.now) (words_after others) in
    let read = sym c.read.ensures ∙ c.in-Ok.is in
    let step : numbers_in (drop i c.args.ranges.now) (words_after rest) ≡ before_numbers (Ok c.in-Ok.number) rest_read =
    ap (numbers_in (drop i c.args.ranges.now)) split
    ∙ numbers_in-drop c.args.ranges.now i (record { least = 0; greatest = 0 }) word
    (words_after others) c.loop-place-test.true
    ∙ ap (λ r. before_numbers r rest_read) read in
    let room : i < length c.loop-place.numbers = omega arith in
    record {
      so_far = c.loop-place.invariant.so_far ∙ ap (behind (take i c.loop-place.numbers)) step
          ∙ behind-Ok (take i c.loop-place.numbers) c.in-Ok.number rest_read
          ∙ ap (λ front. behind front rest_read) (sym (take_more_set c.loop-place.numbers i c.in-Ok.number room));
      space = c.first_word.ensures.space;
      left = omega arith;
      array = omega (arith, length-set c.loop-place.numbers i c.in-Ok.number);
      zeros = λ k h.
          let other : k ≢ i = omega arith in rw get_or-set_other (c.loop-place.invariant.zeros k (omega arith));
    }
