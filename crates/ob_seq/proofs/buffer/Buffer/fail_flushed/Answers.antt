use Rattle.ob_seq.proofs.Words.{FailFlushed, sym, ◌∙◌, ap, length, refl}
use Rattle.std.specs.Prelude.{Err}
use Rattle.std.proofs.lemmas.Result.{err_from_is_err_and}
use Rattle.ob_seq.proofs.Inside.LetGo.{failing_settles, fails}
use Rattle.ob_seq.proofs.Simulating.Kept.{kept_fewer, spared}
use Rattle.ob_seq.proofs.Simulating.Simulated.{obeys}
use Rattle.ob_seq.proofs.buffer.Buffer.fail_flushed.Goals as goal

pub returns-in_err-settled-clause-spares : goal.returns-in_err-settled-clause-spares
returns-in_err-settled-clause-spares c =
    let many = failing_settles c.self.inside.gone.list c.self.inside.contents c.args.cause c.args.notify c.line_count-count.ensures in
    let err = err_from_is_err_and c.from_residual.result c.from_residual.ensures.1 in
    spared (FailFlushed c.args.cause c.args.notify) c.self.view_is (sym c.is_closed.ensures ∙ c.if-is_closed.false) refl
    (err.1 ∙ ap Err err.2) (ap length many) c.in_err-settled.ensures.frugal

pub invariant_of-self-2 : goal.invariant_of-self-2
invariant_of-self-2 c =
    kept_fewer (FailFlushed c.args.cause c.args.notify) c.in_ok-settled.ensures c.take_first.ensures.fewer
    (fails _ _ _ _ (sym c.is_closed.ensures ∙ c.if-is_closed.false) c.args.cause c.args.notify c.line_count-count.ensures
    c.in_ok-settled.ensures c.take_first.ensures) c.self.invariant

pub returns-clause-obeys : goal.returns-clause-obeys
returns-clause-obeys c =
    rw (c.between.ensures, c.word-before.ensures, c.word.ensures)
    (obeys (FailFlushed c.args.cause c.args.notify) _ (fails c.self.inside.gone c.let_go.new.gone _ _
    (sym c.is_closed.ensures ∙ c.if-is_closed.false) c.args.cause c.args.notify c.line_count-count.ensures
    c.in_ok-settled.ensures c.take_first.ensures) c.self.view_is)
