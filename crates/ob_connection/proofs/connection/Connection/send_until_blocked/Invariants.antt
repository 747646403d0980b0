use Rattle.ob_connection.proofs.Words.{◌≡◌, ◌≤◌, ◌+◌, take, Becomes, false}
use Rattle.std.specs.List.{concat}
use Rattle.std.specs.Prelude.{max}
use Rattle.ob_seq.specs.Effect.{bytes_in}
use Rattle.ob_seq.specs.Steps.Commands.{whole_cut}
use Rattle.ob_connection.specs.Inside.{removed, EndsAt, IsLeft, run_of}
use Rattle.ob_connection.specs.Connected.{TakesNoRoom}
use Rattle.ob_connection.specs.Calls.{with_more}
use Rattle.ob_connection.specs.Sending.{AsksInTurns}
use Rattle.ob_connection.proofs.connection.Connection.send_until_blocked.Given as goal

abbrev pub invariant-loop : goal.invariant-loop
invariant-loop g l = record {
  becomes : Becomes (removed l.bytes) l.fn.self l.self;
  gone : l.self.gone ≡ l.fn.self.gone + (whole_cut l.bytes (run_of l.fn.self.unsent)).whole;
  within : l.bytes ≤ bytes_in (run_of l.fn.self.unsent);
  sent : g.S.Socket.sent l.socket
      ≡ with_more (g.S.Socket.sent l.fn.socket) (take l.bytes (concat (run_of l.fn.self.unsent)));
  few : l.counter ≤ max 1 l.fn.max_turns;
  asks : AsksInTurns (IsLeft l.fn.max_bytes l.fn.self) l.counter l.bytes (g.S.Socket.calls l.fn.socket) l.ending
      (g.S.Socket.calls l.socket);
  ends : EndsAt l.self.unsent l.ending;
  still_open : l.self.unsent.closed ≡ false;
  room : TakesNoRoom l.fn.self l.self;
}
