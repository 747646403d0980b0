-- The numbers that a look shows: what was sent is what is left of what was accepted.
use Rattle.std.proofs.Common.{◌≡◌, ◌+◌, ◌-◌, ◌≤◌, List, ap, ◌∙◌, arith}
use Rattle.ob_types.specs.Replies.{is_success}
use Rattle.ob_lifecycle.specs.Events.{ended_after, pending_after, Event, commands_in}
use Rattle.ob_lifecycle.specs.Managed.{Managed, StandsFor, opened_as}
use Rattle.ob_lifecycle.specs.Strain.{numbers_after}
use Rattle.ob_lifecycle.specs.declared.count.Count.{Count}
use Rattle.ob_lifecycle.specs.declared.numbers.Numbers.{Numbers}
use Rattle.ob_lifecycle.proofs.Balance.{bytes_balanced, messages_balanced}
use Rattle.ob_lifecycle.proofs.Tallies.{count_like}

numbers_like : (one other : Numbers) → one.accepted ≡ other.accepted → one.sent ≡ other.sent → one.failed ≡ other.failed
    → one.cancelled ≡ other.cancelled → one.pending ≡ other.pending → one.peak ≡ other.peak
    → one.stops ≡ other.stops → one.stopped ≡ other.stopped → one.refusals ≡ other.refusals → one ≡ other
numbers_like one other accepted sent failed cancelled pending peak stops stopped refusals =
    ap (λ a. record one { accepted = a }) accepted ∙ ap (λ a. record one { accepted = other.accepted; sent = a }) sent
    ∙ ap (λ a. record one { accepted = other.accepted; sent = other.sent; failed = a }) failed
    ∙ ap (λ a. record one { accepted = other.accepted; sent = other.sent; failed = other.failed; cancelled = a }) cancelled
    ∙ ap (λ a. record other { pending = a; peak = one.peak; stops = one.stops; stopped = one.stopped; refusals = one.refusals }) pending
    ∙ ap (λ a. record other { peak = a; stops = one.stops; stopped = one.stopped; refusals = one.refusals }) peak
    ∙ ap (λ a. record other { stops = a; stopped = one.stopped; refusals = one.refusals }) stops
    ∙ ap (λ a. record other { stopped = a; refusals = one.refusals }) stopped ∙ ap (λ a. record other { refusals = a }) refusals

-- what ended otherwise and what is pending is no more than was accepted
pub rest_messages : (managed : Managed) (events : List Event) (pending : Count) → StandsFor managed events
    → pending ≡ pending_after managed.connection.unsent.settings (commands_in events)
    → (managed.tally.failed.messages + managed.tally.cancelled.messages) + pending.messages ≤ managed.tally.accepted.messages
rest_messages managed events pending stands is =
    omega (
      arith,
      messages_balanced (opened_as managed) events,
      ap (λ t. t.accepted.messages) stands.tally,
      ap (λ t. t.failed.messages) stands.tally,
      ap (λ t. t.cancelled.messages) stands.tally,
      ap (λ p. p.messages) is,
    )

pub rest_bytes : (managed : Managed) (events : List Event) (pending : Count) → StandsFor managed events
    → pending ≡ pending_after managed.connection.unsent.settings (commands_in events)
    → (managed.tally.failed.bytes + managed.tally.cancelled.bytes) + pending.bytes ≤ managed.tally.accepted.bytes
rest_bytes managed events pending stands is =
    omega (
      arith,
      bytes_balanced (opened_as managed) events,
      ap (λ t. t.accepted.bytes) stands.tally,
      ap (λ t. t.failed.bytes) stands.tally,
      ap (λ t. t.cancelled.bytes) stands.tally,
      ap (λ p. p.bytes) is,
    )

-- what the look computes
abbrev pub shown : Managed → Count → Numbers
shown managed pending = record {
  accepted = managed.tally.accepted;
  sent = record {
    messages = managed.tally.accepted.messages
        - ((managed.tally.failed.messages + managed.tally.cancelled.messages) + pending.messages);
    bytes = managed.tally.accepted.bytes - ((managed.tally.failed.bytes + managed.tally.cancelled.bytes) + pending.bytes);
  };
  failed = managed.tally.failed;
  cancelled = managed.tally.cancelled;
  pending = pending;
  peak = managed.tally.peak;
  stops = managed.strain.stops;
  stopped = managed.strain.stopped;
  refusals = managed.strain.refusals;
}

pub numbers_shown : (managed : Managed) (events : List Event) (pending : Count) → StandsFor managed events
    → pending ≡ pending_after managed.connection.unsent.settings (commands_in events)
    → shown managed pending ≡ numbers_after (opened_as managed) events
numbers_shown managed events pending stands is =
    let messages = rest_messages managed events pending stands is in
    let bytes = rest_bytes managed events pending stands is in
    numbers_like _ (numbers_after (opened_as managed) events) (ap (λ t. t.accepted) stands.tally)
    (count_like _ (ended_after is_success (opened_as managed) events)
    (omega (
      arith,
      messages_balanced (opened_as managed) events,
      ap (λ t. t.accepted.messages) stands.tally,
      ap (λ t. t.failed.messages) stands.tally,
      ap (λ t. t.cancelled.messages) stands.tally,
      ap (λ p. p.messages) is,
    ))
    (omega (
      arith,
      bytes_balanced (opened_as managed) events,
      ap (λ t. t.accepted.bytes) stands.tally,
      ap (λ t. t.failed.bytes) stands.tally,
      ap (λ t. t.cancelled.bytes) stands.tally,
      ap (λ p. p.bytes) is,
    )))
    (ap (λ t. t.failed) stands.tally) (ap (λ t. t.cancelled) stands.tally) is (ap (λ t. t.peak) stands.tally)
    (ap (λ s. s.stops) stands.strain) (ap (λ s. s.stopped) stands.strain) (ap (λ s. s.refusals) stands.strain)
