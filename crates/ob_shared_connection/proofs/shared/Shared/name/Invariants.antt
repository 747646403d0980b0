use Rattle.std.proofs.Common.{◌≡◌}
use Rattle.ob_shared_connection.proofs.shared.Shared.name.Given as goal

-- it has no number yet
abbrev pub invariant-tries : goal.invariant-tries
invariant-tries l = record {
  table : l.seat.table_id ≡ l.initial.seat.table_id;
  number : l.seat.id ≡ l.initial.seat.id;
  same : l.seat.me ≡ l.initial.seat.me;
}
