use Rattle.std.proofs.Common.{rules, arith}
use Rattle.std.proofs.lemmas.Grind.{common_steps}
use Rattle.ob_shared.proofs.locked.Locked.call.Goals as goal

pub returns-clause-is_call : goal.returns-clause-is_call
returns-clause-is_call g c = rw (← c.self.view_is, ← c.caller.ensures) c.in_ok-receipt.ensures

-- Named for the must-fail edits that fail here (CONTRIBUTING.md).
pub returns-clause-made : goal.returns-clause-made
returns-clause-made g c = search rules

pub invariant_of-self-2 : goal.invariant_of-self-2
invariant_of-self-2 g c = grind (arith, common_steps)

pub returns-in_err-receipt-clause-is_call : goal.returns-in_err-receipt-clause-is_call
returns-in_err-receipt-clause-is_call g c = record {
  answer = search rules;
  after = search rules;
  no_memory_last = search rules;
  frugal = search rules;
  refused = search rules;
}
