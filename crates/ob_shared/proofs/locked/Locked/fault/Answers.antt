use Rattle.std.proofs.Common.{refl, subst, rules}
use Rattle.std.specs.List.{All}
use Rattle.ob_history.specs.History.{History}
use Rattle.ob_shared.specs.Calls.{StandsIn}
use Rattle.ob_shared.proofs.locked.Locked.fault.Goals as goal

pub returns-in-Ok-None-clause-stands : goal.returns-in-Ok-None-clause-stands
returns-in-Ok-None-clause-stands g c = λ none.
    subst (λ (history : History). All (StandsIn history.settings history.records) c.args.dones.now) c.self.view_is
    ((rw c.in-Ok-None.field-0-is at c.in-Ok-None.ensures.stands) refl)

-- Named for the must-fail edits that fail here: `search` finds it unasked (CONTRIBUTING.md).
pub returns-in-Ok-None-clause-foreign : goal.returns-in-Ok-None-clause-foreign
returns-in-Ok-None-clause-foreign g c = search rules

pub returns-in-Ok-None-clause-short : goal.returns-in-Ok-None-clause-short
returns-in-Ok-None-clause-short g c = search rules

pub returns-in-Ok-None-clause-missing : goal.returns-in-Ok-None-clause-missing
returns-in-Ok-None-clause-missing g c = search rules

pub returns-in-Some-clause-missing : goal.returns-in-Some-clause-missing
returns-in-Some-clause-missing g c = search rules

pub returns-in-Ok-Some-clause-missing : goal.returns-in-Ok-Some-clause-missing
returns-in-Ok-Some-clause-missing g c = search rules

pub returns-in-Err-clause-missing : goal.returns-in-Err-clause-missing
returns-in-Err-clause-missing g c = search rules

pub returns-in-Ok-Some-clause-stands : goal.returns-in-Ok-Some-clause-stands
returns-in-Ok-Some-clause-stands g c = search rules

pub returns-in-Ok-Some-clause-short : goal.returns-in-Ok-Some-clause-short
returns-in-Ok-Some-clause-short g c = search rules

pub returns-in-Err-clause-short : goal.returns-in-Err-clause-short
returns-in-Err-clause-short g c = search rules

pub returns-in-Ok-None-clause-as_many : goal.returns-in-Ok-None-clause-as_many
returns-in-Ok-None-clause-as_many g c = search rules
