use Rattle.std.proofs.Common.{refl}
use Rattle.ob_shared_connection.proofs.Turns.{reports_more}
use Rattle.ob_shared_connection.proofs.transport.turns.added.Goals as goal

pub returns-clause-reports : goal.returns-clause-reports
returns-clause-reports c turns first last reports =
    reports_more turns first last c.args.sent c.args.total _ reports c.saturating_add.ensures c.saturating_add-2.ensures
    c.or.ensures refl refl refl
