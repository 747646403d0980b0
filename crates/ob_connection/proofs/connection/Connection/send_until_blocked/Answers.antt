use Rattle.ob_connection.proofs.Words.{◌≡◌, ◌≤◌, ◌+◌, ℕ, List, take, sym, ap, ◌∙◌, subst, arith, Pending, held, Gives, false, Ok, Obeys, Refusal, Result}
use Rattle.ob_connection.proofs.Words.{Becomes, Connected, connected_of, change_between}
use Rattle.std.specs.List.{concat}
use Rattle.ob_types.specs.declared.command.Command.TheVariants.{RemoveBytes}
use Rattle.ob_types.specs.declared.promise.Outcome.TheVariants.{Success}
use Rattle.ob_seq.specs.Effect.{bytes_in}
use Rattle.ob_seq.specs.State.{closed_after}
use Rattle.ob_seq.specs.Steps.Commands.{bytes_step, whole_cut}
use Rattle.ob_connection.specs.Inside.{removed, IsLeft, run_of}
use Rattle.ob_connection.specs.Obeying.{taken_reply}
use Rattle.ob_connection.specs.Calls.{with_more}
use Rattle.ob_connection.specs.Sending.{AsksInTurns, IsDue}
use Rattle.ob_connection.specs.declared.replies.Taken.{Taken}
use Rattle.std.specs.Prelude.{max}
use Rattle.ob_connection.proofs.Answered.{asks_all, asks_as, asks_more, asks_within}
use Rattle.ob_connection.proofs.Steps.{same_change, taken}
use Rattle.ob_connection.proofs.Obeyed.{obeys}
use Rattle.ob_connection.proofs.Offered.{taken_twice}
use Rattle.ob_connection.proofs.Sending.{due_after, ends_are, few_in_front, is_open, run_after}
use Rattle.ob_connection.proofs.Settling.{is_next, line_replied}
use Rattle.ob_connection.proofs.TurnOffers.{left_further}
use Rattle.ob_connection.proofs.Turns.{both_become, both_sent, both_whole, both_within, few_gone, not_too_many}
use Rattle.ob_connection.proofs.connection.Connection.send_until_blocked.Goals.{else-loop-test, then-loop-test+then-not-goes_on}
use Rattle.ob_connection.proofs.connection.Connection.send_until_blocked.Goals as goal

pub overflow_add-bytes : goal.overflow_add-bytes
overflow_add-bytes g c =
    let now = c.loop.invariant in
    let turn = c.send_turn-more.ensures in
    let some = c.stands_for_some_commands.ensures in
    omega (
      arith,
      both_within c.args.self.now c.loop.self c.loop.bytes now.becomes now.within c.send_turn-more.new.self
          c.send_turn-more.result.0 turn.becomes turn.within,
      few_in_front c.args.self.now some.0 some.1,
    )

pub loop-preserved : goal.loop-preserved
loop-preserved g c =
    let now = c.loop.invariant in
    let turn = c.send_turn-more.ensures in
    let old = c.args.self.now in
    let new = c.send_turn-more.new.self in
    let more = c.send_turn-more.result.0 in
    let bytes = concat (run_of old.unsent) in
    let before = g.S.Socket.sent c.args.socket.now in record {
      becomes = both_become old c.loop.self c.loop.bytes now.becomes now.within new more turn.becomes turn.within;
      gone = omega (
        arith,
        turn.gone,
        now.gone,
        both_whole old c.loop.self c.loop.bytes now.becomes now.within new more turn.becomes turn.within,
      );
      within = both_within old c.loop.self c.loop.bytes now.becomes now.within new more turn.becomes turn.within;
      sent = turn.sent ∙ ap (λ all. with_more all (take more (concat (run_of c.loop.self.unsent)))) now.sent
          ∙ taken_twice before (take c.loop.bytes bytes) (take more (concat (run_of c.loop.self.unsent)))
          ∙ ap (with_more before)
          (both_sent old c.loop.self c.loop.bytes now.becomes now.within new more turn.becomes turn.within);
      few = omega (arith, c.loop-test.true);
      asks = asks_more (IsLeft c.args.max_bytes old)
          (c.goes_on.ensures.yes c.if-not-goes_on.false)
          (IsLeft c.args.max_bytes c.loop.self)
          (left_further old c.loop.self c.loop.bytes now.becomes now.within c.args.max_bytes) now.asks turn.asks;
      ends = turn.ends;
      still_open = turn.still_open;
      room = omega (arith, turn.room, now.room);
    }

pub returns-clause-sends : goal.returns-clause-sends
returns-clause-sends g c =
    let now = c.loop.invariant in
    let old = c.args.self.now in
    let bytes = c.loop.bytes in
    let before = g.S.Socket.sent c.args.socket.now in
    let inside = connected_of c.self.inside in
    let unclosed : Gives old closed_after false = λ commands stands. sym c.if-is_closed.false ∙ c.is_closed.ensures commands stands in
    let becomes : Becomes (removed bytes) inside c.loop.self =
    subst (λ one. Becomes (removed bytes) one c.loop.self) (sym c.self.view_is) now.becomes in
    let few = subst (λ (one : Connected). bytes ≤ bytes_in (run_of one.unsent)) (sym c.self.view_is) now.within in
    let end : c.loop.self.gone ≡ c.self.inside.gone + (whole_cut bytes (run_of inside.unsent)).whole =
    now.gone ∙ ap (λ (one : Connected). one.gone + (whole_cut bytes (run_of one.unsent)).whole) (sym c.self.view_is) in
    let moves = taken (bytes_step bytes) taken_reply
    (ap (λ (one : Connected). one.unsent.closed) c.self.view_is ∙ is_open unclosed c.stands_for_some_commands.ensures)
    c.taken_since.result (λ past. not_too_many bytes (held past) few)
    (λ past. ap (taken_reply (held past).promises) c.taken_since.ensures
    ∙ line_replied past c.loop.self.gone (whole_cut bytes (run_of inside.unsent)).whole Success _
    (change_between (held past).word (removed bytes (held past)).word) end (few_gone bytes inside.unsent)
    (same_change c.word-before.ensures (ap (λ (one : Pending). one.word) (becomes past).1)))
    becomes in
    let asks : AsksInTurns (IsLeft c.args.max_bytes old) (max 1 c.args.max_turns) bytes (g.S.Socket.calls c.args.socket.now)
    c.loop.ending (g.S.Socket.calls c.loop.socket) =
    elim c.loop-test.branch [
      | else-loop-test w ↦ asks_all (IsLeft c.args.max_bytes old)
          (omega (arith, w.loop-test.false, c.loop.auto.counter, c.loop.auto.counter-end, now.few)) now.asks
      | then-loop-test+then-not-goes_on w ↦ asks_within (IsLeft c.args.max_bytes old)
          (w.goes_on.ensures.no w.if-not-goes_on.true) now.few now.asks
    ] in record {
      sent = λ commands stands. now.sent
          ∙ ap (λ (run : List (List ℕ)). with_more before (take bytes (concat run))) (run_after old commands stands);
      obeys = subst (λ (one : Connected). let result : Result Taken Refusal = Ok c.taken_since.result in
          Obeys one (RemoveBytes bytes) taken_reply result c.loop.self) c.self.view_is (obeys (RemoveBytes bytes) moves);
      next = is_next old c.loop.self (ap (λ (one : Connected). one.gone) c.self.view_is) c.taken_since.ensures (omega (arith, now.gone));
      asks = asks_as (IsDue c.args.max_bytes old) (IsLeft c.args.max_bytes old)
          (λ taken offered left. due_after unclosed c.args.max_bytes taken offered left) asks;
      ends = ends_are c.loop.self c.loop.ending now.ends;
    }
