use Rattle.ob_shared_connection.proofs.Accepting.{counts_as}
use Rattle.ob_shared_connection.proofs.lacking.bytes_added.Goals as goal

pub returns-clause-exact : goal.returns-clause-exact
returns-clause-exact c accepts =
    c.bytes_added_by.ensures.exact c.args.message.now
    (counts_as c.args.connection.now c.estimate-estimate.result c.args.message.now c.in-Ok.size c.estimate-estimate.ensures
    c.in-Ok.ensures) accepts
