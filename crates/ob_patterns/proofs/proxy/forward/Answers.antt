use Rattle.std.proofs.lemmas.Result.{err_from_is_err_and}
use Rattle.ob_patterns.proofs.Flushing.{both_added, refuses}
use Rattle.ob_patterns.proofs.proxy.forward.Goals as goal

pub returns-in_err-_written-clause-refusal : goal.returns-in_err-_written-clause-refusal
returns-in_err-_written-clause-refusal c =
    let err = err_from_is_err_and c.from_residual.result c.from_residual.ensures.1 in
    rw (err.1, err.2) (refuses c.in_err-_written.ensures.obeys)

pub returns-clause-handed : goal.returns-clause-handed
returns-clause-handed c =
    let flushed = c.flush-flushed in
    both_added c.in_ok-_written.ensures.obeys flushed.result flushed.ensures.obeys flushed.ensures.frugal
