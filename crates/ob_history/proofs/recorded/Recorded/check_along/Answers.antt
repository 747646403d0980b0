use Rattle.std.proofs.Common.{subst, sym, ap, ◌∙◌, rules}
use Rattle.ob_seq.specs.Rows.{Settings}
use Rattle.ob_history.specs.History.{History, IsLegal}
use Rattle.ob_history.proofs.recorded.Recorded.check_along.Goals as goal

-- Named for the must-fail edits that fail here: `search` finds it unasked (CONTRIBUTING.md).
pub returns-then-place-len-clause-answer : goal.returns-then-place-len-clause-answer
returns-then-place-len-clause-answer c = search rules

pub go_on-requires-clause-legal : goal.go_on-requires-clause-legal
go_on-requires-clause-legal c =
    let records = c.self.inside.records.items in
    let same = ap (λ (history : History). history.settings) c.self.view_is ∙ sym c.turn_back.ensures.kept.same in
    rw c.deref.ensures.value
    (subst (λ (settings : Settings). IsLegal settings records) same c.self.invariant.legal)
