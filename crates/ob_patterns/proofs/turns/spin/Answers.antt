use Rattle.std.proofs.Common.{sym, ap, subst, inl}
use Rattle.ob_patterns.specs.Sending.{Leaves, next_after}
use Rattle.ob_patterns.proofs.turns.spin.Goals as goal

pub returns-in-Broken-clause-spins : goal.returns-in-Broken-clause-spins
returns-in-Broken-clause-spins g c =
    let left = c.send_until_blocked.new.self in
    let new = c.give_up_broken.new.connection in
    inl record {
      done = c.in-Ok.sent;
      left = left;
      sends = c.in-Ok.ensures.sends;
      says = ap next_after (sym c.in-Broken.is);
      leaves = subst (λ ending. Leaves ending left new) (sym c.in-Broken.is) c.give_up_broken.ensures.given_up;
    }
