use Rattle.std.proofs.Common.{sym, subst}
use Rattle.ob_patterns.proofs.Cut.{says_by}
use Rattle.ob_patterns.specs.Sending.{Says}
use Rattle.ob_patterns.proofs.urgent.next_at_cut.Goals as goal

pub returns-then-is_cut-clause-says : goal.returns-then-is_cut-clause-says
returns-then-is_cut-clause-says c =
    subst (λ next. Says c.args.connection.now next) (sym c.next_by.ensures.next)
    (says_by c.args.blocked _ c.current.ensures c.if-is_cut.ensures)
