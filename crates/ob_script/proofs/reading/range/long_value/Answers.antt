use Rattle.std.proofs.Common.{◌≡◌, ◌^◌, ◌+◌, ◌*◌, ◌-◌, ◌<◌, ◌≤◌, arith, get_or, take, refl, ◌∙◌, ap, Some, take_all}
use Rattle.std.specs.Str.Parse.{digits_value}
use Rattle.std.proofs.lemmas.Bool.{cond_above, cond_below}
use Rattle.ob_script.proofs.Numbers.{digit_at, value_more, value_too_great}
use Rattle.ob_script.proofs.reading.range.long_value.Goals as goal

pub with_digit-requires : goal.with_digit-requires
with_digit-requires c = digit_at c.args.word.now c.loop-byte.byte-index c.requires c.loop-byte-test.true

pub returns-in-None : goal.returns-in-None
returns-in-None c =
    let word = c.args.word.now in
    let i = c.loop-byte.byte-index in
    let past : 2 ^ 64 ≤ c.loop-byte.value * 10 + (get_or word i 0 - 48) = omega (arith, c.in-None.ensures) in
    let big =
    value_too_great word i c.loop-byte.value c.requires c.loop-byte-test.true c.loop-byte.invariant.so_far past in
    cond_above _ _ _ _ _ big refl

pub loop-byte-preserved : goal.loop-byte-preserved
loop-byte-preserved c = record {
  so_far = c.in-Some.ensures.1
      ∙ value_more c.args.word.now c.loop-byte.byte-index c.loop-byte.value c.requires c.loop-byte-test.true
      c.loop-byte.invariant.so_far;
  fits = omega (arith, c.in-Some.ensures.0, c.in-Some.ensures.1);
}

pub returns : goal.returns
returns c =
    let word = c.args.word.now in
    let all : take c.loop-byte.byte-index word ≡ word = take_all c.loop-byte.byte-index word (omega arith) in
    let value : c.loop-byte.value ≡ digits_value 10 word = rw all at c.loop-byte.invariant.so_far in
    let small : digits_value 10 word < 2 ^ 64 = omega arith in
    ap Some value ∙ cond_below _ _ _ _ small
