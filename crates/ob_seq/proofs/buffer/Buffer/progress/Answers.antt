use Rattle.ob_seq.proofs.Words.{refl, Progress}
use Rattle.std.proofs.lemmas.Result.{err_from_is_err_and}
use Rattle.ob_seq.proofs.Simulating.Kept.{kept, obeyed}
use Rattle.ob_seq.proofs.buffer.Buffer.progress.Goals as goal

pub returns-in_err-progress-clause-obeys : goal.returns-in_err-progress-clause-obeys
returns-in_err-progress-clause-obeys c =
    let err = err_from_is_err_and c.from_residual.result c.from_residual.ensures.1 in
    obeyed (Progress c.args.n) c.in_err-progress.ensures c.self.inside.gone.list c.self.view_is (rw (err.1, err.2) refl)

pub invariant_of-self-2 : goal.invariant_of-self-2
invariant_of-self-2 c = kept (Progress c.args.n) c.in_ok-progress.ensures c.self.invariant

pub returns-clause-obeys : goal.returns-clause-obeys
returns-clause-obeys c = obeyed (Progress c.args.n) c.in_ok-progress.ensures c.self.inside.gone.list c.self.view_is (rw c.reply.ensures refl)
