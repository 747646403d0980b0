use Rattle.std.proofs.Common.{rules}
use Rattle.std.specs.Prelude.{IfErr}
use Rattle.std.proofs.lemmas.Result.{IfErr-weaker}
use Rattle.ob_pool.specs.Drive.{ComesOfWork}
use Rattle.ob_pool.proofs.Jobs.{comes_of_more}
use Rattle.ob_pool.proofs.threads.run.Goals as goal

pub returns-clause-fault : goal.returns-clause-fault
returns-clause-fault g c =
    let writers = c.args.context.now.writers in
    let of_writers : IfErr c.join_mut-done.result.1.dones (ComesOfWork writers) = search rules in
    let of_transport : IfErr c.join_mut-done.result.0 (ComesOfWork 0) = search rules in
    c.end_together.ensures.fault writers of_writers
    (IfErr-weaker c.join_mut-done.result.0 (ComesOfWork 0) (ComesOfWork writers) (comes_of_more writers) of_transport)
