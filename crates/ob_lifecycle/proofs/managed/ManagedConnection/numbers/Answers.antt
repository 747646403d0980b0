use Rattle.std.proofs.Common.{arith, subst}
use Rattle.ob_lifecycle.specs.Events.{commands_in}
use Rattle.ob_lifecycle.specs.Inside.{managed_of}
use Rattle.ob_lifecycle.specs.Managed.{Gives}
use Rattle.ob_lifecycle.specs.Strain.{numbers_after}
use Rattle.ob_lifecycle.proofs.Showing.{numbers_shown, rest_bytes, rest_messages, shown}
use Rattle.ob_lifecycle.proofs.managed.ManagedConnection.numbers.Goals as goal

pub overflow_add-result : goal.overflow_add-result
overflow_add-result c =
    let some = c.self.invariant in
    omega (
      arith,
      some.1.messages,
      rest_messages (managed_of c.self.inside) some.0 c.pending_in-pending.result some.1
          (c.pending_in-pending.ensures (commands_in some.0) some.1.commands),
    )

pub overflow_add-result-2 : goal.overflow_add-result-2
overflow_add-result-2 c =
    let some = c.self.invariant in
    omega (
      arith,
      some.1.messages,
      rest_messages (managed_of c.self.inside) some.0 c.pending_in-pending.result some.1
          (c.pending_in-pending.ensures (commands_in some.0) some.1.commands),
    )

pub overflow_sub-result : goal.overflow_sub-result
overflow_sub-result c =
    let some = c.self.invariant in
    omega (
      arith,
      some.1.messages,
      rest_messages (managed_of c.self.inside) some.0 c.pending_in-pending.result some.1
          (c.pending_in-pending.ensures (commands_in some.0) some.1.commands),
    )

pub overflow_add-result-3 : goal.overflow_add-result-3
overflow_add-result-3 c =
    let some = c.self.invariant in
    omega (
      arith,
      some.1.bytes,
      rest_bytes (managed_of c.self.inside) some.0 c.pending_in-pending.result some.1
          (c.pending_in-pending.ensures (commands_in some.0) some.1.commands),
    )

pub overflow_add-result-4 : goal.overflow_add-result-4
overflow_add-result-4 c =
    let some = c.self.invariant in
    omega (
      arith,
      some.1.bytes,
      rest_bytes (managed_of c.self.inside) some.0 c.pending_in-pending.result some.1
          (c.pending_in-pending.ensures (commands_in some.0) some.1.commands),
    )

pub overflow_sub-result-2 : goal.overflow_sub-result-2
overflow_sub-result-2 c =
    let some = c.self.invariant in
    omega (
      arith,
      some.1.bytes,
      rest_bytes (managed_of c.self.inside) some.0 c.pending_in-pending.result some.1
          (c.pending_in-pending.ensures (commands_in some.0) some.1.commands),
    )

pub returns : goal.returns
returns c =
    subst (λ managed. Gives managed numbers_after (shown (managed_of c.self.inside) c.pending_in-pending.result)) c.self.view_is
    (λ events stands. numbers_shown (managed_of c.self.inside) events c.pending_in-pending.result stands
    (c.pending_in-pending.ensures (commands_in events) stands.commands))
