use Rattle.std.proofs.Common.{◌≡◌}
use Rattle.ob_shared_connection.proofs.shared.Shared.yielding.Given as goal

-- nothing is taken yet
abbrev pub invariant-yields : goal.invariant-yields
invariant-yields l = record {
  table : l.seat.table_id ≡ l.initial.seat.table_id;
  number : l.seat.id ≡ l.initial.seat.id;
  same : l.seat.me ≡ l.initial.seat.me;
}
