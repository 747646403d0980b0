use Rattle.std.proofs.Common.{refl, arith}
use Rattle.std.proofs.lemmas.List.{take_all}
use Rattle.ob_c.proofs.Listing.{more_bytes}
use Rattle.ob_c.proofs.parts.length_of.Goals as goal

pub loop-part-init : goal.loop-part-init
loop-part-init c = refl

pub returns-in_default-clause-none : goal.returns-in_default-clause-none
returns-in_default-clause-none c none =
    let more = more_bytes c.args.parts.now c.loop-part.part-index c.loop-part-test.true in
    let past = c.in_default.ensures in
    let count = c.loop-part.invariant in
    omega (arith, more.0, more.1, past, count)

pub loop-part-preserved : goal.loop-part-preserved
loop-part-preserved c =
    let more = more_bytes c.args.parts.now c.loop-part.part-index c.loop-part-test.true in
    let sum = c.in-Some.ensures in
    let count = c.loop-part.invariant in
    omega (arith, more.0, sum, count)

pub returns-clause-some : goal.returns-clause-some
returns-clause-some c = rw (take_all c.loop-part.part-index c.args.parts.now c.loop-part-test.false) at c.loop-part.invariant
