use Rattle.std.proofs.Common.{rules, subst}
use Rattle.ob_history.specs.History.{History, IsLegal}
use Rattle.ob_history.proofs.recorded.Recorded.buffer.Goals as goal

pub returns : goal.returns
returns c = record {
  stands = search rules;
  settings = search rules;
  legal = subst (λ (history : History). IsLegal history.settings history.records) c.self.view_is c.self.invariant.legal;
  bounded = search rules;
}
