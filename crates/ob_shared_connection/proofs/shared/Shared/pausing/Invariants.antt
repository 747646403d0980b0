use Rattle.std.proofs.Common.{◌≡◌}
use Rattle.ob_shared_connection.proofs.shared.Shared.pausing.Given as goal

-- nothing is taken yet
abbrev pub invariant-pauses : goal.invariant-pauses
invariant-pauses l = record {
  table : l.seat.table_id ≡ l.initial.seat.table_id;
  number : l.seat.id ≡ l.initial.seat.id;
  same : l.seat.me ≡ l.initial.seat.me;
}
