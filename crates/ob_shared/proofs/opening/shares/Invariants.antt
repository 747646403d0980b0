use Rattle.std.proofs.Common.{◌≡◌, ◌+◌, ◌≤◌, vec_capacity}
use Rattle.std.proofs.Common.{[]}
use Rattle.ob_shared.specs.Calls.{new_shares}
use Rattle.ob_shared.proofs.opening.shares.Given as goal

abbrev pub invariant-loop-caller : goal.invariant-loop-caller
invariant-loop-caller g l =
    record {
      parts : l.whole.parts + l.caller ≡ l.callers;
      none_made : l.whole.amount ≡ 0;
      shares : l.shares.items ≡ new_shares l.caller;
      published : l.publisher ≡ [];
      memory : l.callers ≤ vec_capacity l.shares;
      length : l.shares.len ≡ l.caller;
    }
