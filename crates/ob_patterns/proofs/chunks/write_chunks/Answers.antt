use Rattle.std.proofs.Common.{refl, sym, arith, Ok}
use Rattle.std.proofs.lemmas.Result.{err_from_is_err_and}
use Rattle.ob_patterns.proofs.Flushing.{refuses}
use Rattle.ob_patterns.proofs.Pieces.{none_more, none_wrote, one_wrote, refused_given, writes_given}
use Rattle.ob_patterns.specs.declared.chunks.Progress.TheVariants.{Finished, Paused, ComeAgain}
use Rattle.ob_patterns.proofs.chunks.write_chunks.Goals as goal

pub loop-count-init : goal.loop-count-init
loop-count-init g c = none_wrote c.args.connection.now (g.C.Chunks.answers c.args.chunks.now)

pub loop-count-preserved : goal.loop-count-preserved
loop-count-preserved g c =
    one_wrote c.loop-count.invariant c.in-Some.bytes c.if-not-is_writable.ensures c.in_ok-_written.ensures.obeys
    c.in-Some.ensures

pub returns-then-not-is_writable : goal.returns-then-not-is_writable
returns-then-not-is_writable g c =
    writes_given c.loop-count.invariant (Ok Paused) c.loop-count.auto._count-end refl
    (sym (none_more (g.C.Chunks.answers c.loop-count.chunks))) c.if-not-is_writable.ensures

pub returns-in_default : goal.returns-in_default
returns-in_default g c =
    writes_given c.loop-count.invariant (Ok Finished) c.loop-count.auto._count-end refl c.in_default.ensures
    c.if-not-is_writable.ensures

pub returns-in_err-_written : goal.returns-in_err-_written
returns-in_err-_written g c =
    let err = err_from_is_err_and c.from_residual.result c.from_residual.ensures.1 in
    let fault = c.in_err-_written.ensures in
    rw (err.1, err.2)
    (refused_given c.loop-count.invariant c.in_err-_written.field-0.0 c.in-Some.bytes c.loop-count.auto._count-end
    fault.obeys.refused fault.returned c.in-Some.ensures c.if-not-is_writable.ensures (refuses fault.obeys))

pub returns : goal.returns
returns g c =
    writes_given c.loop-count.invariant (Ok ComeAgain) c.loop-count.auto._count-end refl
    (sym (none_more (g.C.Chunks.answers c.loop-count.chunks)))
    (omega (arith, c.loop-count.auto._count-end, c.loop-count-test.false))
