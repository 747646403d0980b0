use Rattle.std.proofs.Common.{subst, rules}
use Rattle.ob_history.specs.History.{History, IsLegal}
use Rattle.ob_history.proofs.recorded.Recorded.records.Goals as goal

pub returns-clause-legal : goal.returns-clause-legal
returns-clause-legal c =
    subst (λ (history : History). IsLegal history.settings history.records) c.self.view_is c.self.invariant.legal

-- Named for the must-fail edits that fail here: `search` finds it unasked (CONTRIBUTING.md).
pub returns-clause-value : goal.returns-clause-value
returns-clause-value c = search rules
