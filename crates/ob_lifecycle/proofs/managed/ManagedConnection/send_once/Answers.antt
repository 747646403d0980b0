use Rattle.std.proofs.Common.{subst}
use Rattle.ob_lifecycle.specs.Events.{sending_happens}
use Rattle.ob_lifecycle.specs.Inside.{managed_of}
use Rattle.ob_lifecycle.proofs.Bringing.{managed_with, stands_on}
use Rattle.ob_lifecycle.proofs.Ends.{brings_once}
use Rattle.ob_lifecycle.proofs.managed.ManagedConnection.send_once.Goals as goal
use Rattle.ob_lifecycle.specs.Managed.{Brings}

pub invariant_of-self-2 : goal.invariant_of-self-2
invariant_of-self-2 g c =
    stands_on (managed_of c.self.inside) _ _ _ c.self.invariant
    (brings_once _ _ _ _ (managed_of c.self.inside) c.send_once-answer.new.self c.reach-finished.new.self c.changed.new.self c.of_once.result
    c.send_once-answer.result c.bytes_of_once-bytes.result c.waiting_count.result c.after.new.self c.is_empty.result c.reach-finished.result c.send_once-answer.ensures.sends (cc) c.bytes_of_once-bytes.ensures c.waiting_count.ensures c.is_empty.ensures c.after.ensures c.reach-finished.ensures.reached c.reach-finished.ensures.told
    c.of_once.ensures c.changed.ensures)

pub returns-clause-brings : goal.returns-clause-brings
returns-clause-brings g c =
    subst (λ old. Brings old (sending_happens (λ done. done.bytes) c.send_once-answer.result) c.reach-finished.result
    (managed_with (managed_of c.self.inside) c.send_once-answer.new.self c.reach-finished.new.self c.self.inside.tally c.changed.new.self)) c.self.view_is
    (brings_once _ _ _ _ (managed_of c.self.inside) c.send_once-answer.new.self c.reach-finished.new.self c.changed.new.self c.of_once.result
    c.send_once-answer.result c.bytes_of_once-bytes.result c.waiting_count.result c.after.new.self c.is_empty.result c.reach-finished.result c.send_once-answer.ensures.sends (cc) c.bytes_of_once-bytes.ensures c.waiting_count.ensures c.is_empty.ensures c.after.ensures c.reach-finished.ensures.reached c.reach-finished.ensures.told
    c.of_once.ensures c.changed.ensures)
