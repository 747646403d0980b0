use Rattle.std.proofs.Common.{◌≡◌}
use Rattle.ob_shared_connection.proofs.shared.Shared.napping.Given as goal

-- nothing is taken yet
abbrev pub invariant-naps : goal.invariant-naps
invariant-naps g l = record {
  table : l.seat.table_id ≡ l.initial.seat.table_id;
  number : l.seat.id ≡ l.initial.seat.id;
  same : l.seat.me ≡ l.initial.seat.me;
}
