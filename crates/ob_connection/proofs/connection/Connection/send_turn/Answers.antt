use Rattle.ob_connection.proofs.Words.{◌≡◌, ◌≤◌, ℕ, List, length, take, sym, ap, ◌∙◌, arith}
use Rattle.std.specs.List.{concat}
use Rattle.std.proofs.lemmas.List.{length-drop}
use Rattle.ob_seq.proofs.Inside.Gathered.{length_of_concat}
use Rattle.ob_connection.specs.Calls.{calls_with, most_pieces, with_more}
use Rattle.ob_connection.specs.Inside.{answer_of, IsLeft, offered, run_of}
use Rattle.ob_connection.proofs.Answered.{answers_are, due_at_once, taken_by}
use Rattle.ob_connection.proofs.TurnOffers.{first_offer, offered_first, offered_none, offered_some}
use Rattle.ob_connection.proofs.Turns.{run_mid, some_in_line}
use Rattle.ob_connection.proofs.connection.Connection.send_turn.Goals as goal

-- as many bytes as the socket took
same_within : {bytes taken : ℕ} (all : List ℕ) → bytes ≡ taken → taken ≤ length all → bytes ≤ length all
same_within all same within = omega (arith, same, within)

pub take_bytes-requires-clause-few : goal.take_bytes-requires-clause-few
take_bytes-requires-clause-few g c =
    let now = c.args.self.now.unsent in
    let within = same_within (concat (offered most_pieces c.args.max_bytes now)) c.bytes-bytes.ensures
    c.offer-offer.ensures.within in
    (offered_first most_pieces c.args.max_bytes c.bytes-bytes.result now within).1

pub ending_after-requires-clause-nothing : goal.ending_after-requires-clause-nothing
ending_after-requires-clause-nothing g c nothing =
    let now = c.args.self.now.unsent in
    let new = c.take_bytes.new.self.unsent in
    let within = same_within (concat (offered most_pieces c.args.max_bytes now)) c.bytes-bytes.ensures
    c.offer-offer.ensures.within in
    let few = (offered_first most_pieces c.args.max_bytes c.bytes-bytes.result now within).1 in
    let none = offered_none most_pieces c.args.max_bytes now (omega arith) (c.offer-offer.ensures.nothing nothing) in
    let rest = run_mid c.args.self.now c.take_bytes.new.self c.bytes-bytes.result c.take_bytes.ensures.becomes few in
    omega (
      arith,
      none,
      length_of_concat (run_of new),
      length_of_concat (run_of now),
      ap (λ bytes. length bytes) rest,
      length-drop c.bytes-bytes.result (concat (run_of now)),
    )

pub ending_after-requires-clause-left : goal.ending_after-requires-clause-left
ending_after-requires-clause-left g c asked none =
    let now = c.args.self.now.unsent in
    let new = c.take_bytes.new.self.unsent in
    let within = same_within (concat (offered most_pieces c.args.max_bytes now)) c.bytes-bytes.ensures
    c.offer-offer.ensures.within in
    let few = (offered_first most_pieces c.args.max_bytes c.bytes-bytes.result now within).1 in
    let some = offered_some most_pieces c.args.max_bytes now (c.offer-offer.ensures.something asked) in
    let rest = run_mid c.args.self.now c.take_bytes.new.self c.bytes-bytes.result c.take_bytes.ensures.becomes few in
    some_in_line new
    (omega (
      arith,
      none,
      c.bytes-bytes.ensures,
      some,
      length_of_concat (run_of new),
      length_of_concat (run_of now),
      ap (λ bytes. length bytes) rest,
      length-drop c.bytes-bytes.result (concat (run_of now)),
    ))

pub returns : goal.returns
returns g c =
    let now = c.args.self.now.unsent in
    let pieces = offered most_pieces c.args.max_bytes now in
    let all = concat pieces in
    let within = same_within all c.bytes-bytes.ensures c.offer-offer.ensures.within in
    let first = offered_first most_pieces c.args.max_bytes c.bytes-bytes.result now within in record {
      becomes = c.take_bytes.ensures.becomes;
      gone = c.take_bytes.ensures.gone;
      within = first.1;
      sent = c.offer-offer.ensures.sent
          ∙ ap (λ n. with_more (g.S.Socket.sent c.args.socket.now) (take n all)) (sym c.bytes-bytes.ensures)
          ∙ ap (with_more (g.S.Socket.sent c.args.socket.now)) first.0;
      asks = record {
        made = calls_with pieces (answer_of c.offer-offer.result);
        calls = c.offer-offer.ensures.calls;
        offers = due_at_once (IsLeft c.args.max_bytes c.args.self.now) c.offer-offer.result
            (λ asked. first_offer c.args.max_bytes c.args.self.now (c.offer-offer.ensures.something asked));
        bytes = taken_by pieces c.offer-offer.result ∙ sym c.bytes-bytes.ensures;
        ends = rw (answers_are pieces (answer_of c.offer-offer.result)) c.ending_after.ensures.asked;
      };
      ends = c.ending_after.ensures.left;
      still_open = c.take_bytes.ensures.still_open;
      room = c.take_bytes.ensures.room;
    }
