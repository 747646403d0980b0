use Rattle.ob_connection.proofs.Words.{arith}
use Rattle.ob_connection.proofs.Words.{◌≡◌, ◌≤◌, List, ℕ, length, take, not, sym, ap, ◌∙◌, told_by, Bool}
use Rattle.std.specs.List.{concat}
use Rattle.std.specs.Prelude.{min, IfOk, IsErr, IsErrAnd, Result, Ok, Err}
use Rattle.ob_connection.specs.declared.connection.sending.SendFault.{SendFault}
use Rattle.ob_connection.specs.declared.connection.sending.Sent.{Sent}
use Rattle.ob_connection.specs.Obeying.{promises_after, taken_reply}
use Rattle.ob_connection.specs.Calls.{most_pieces, with_more}
use Rattle.ob_connection.specs.Inside.{offered}
use Rattle.ob_connection.specs.Sending.{bytes_or_fault}
use Rattle.ob_connection.proofs.Sending.{asks_by, not_refused, offered_are_gathered, offered_within}
use Rattle.ob_connection.proofs.connection.Connection.send_once.Goals as goal

-- as many bytes as the socket took
as_taken : {bytes taken : ℕ} (all : List ℕ) → bytes ≡ taken → taken ≤ length all → bytes ≤ length all
as_taken all same within = omega (arith, same, within)

-- which reports nothing of the socket's room
no_room_told : (result : Result Sent SendFault) (blocked : Bool) → IsErr result → IfOk result (λ done. done.blocked ≡ blocked)
no_room_told (Ok done) blocked is = absurd (cc)
no_room_told (Err told) blocked is = tt

-- a fault that is passed on is reported
fault_kept : (result : Result Sent SendFault) (fault : SendFault) → IsErrAnd result (λ told. told ≡ fault) →
    bytes_or_fault result ≡ Err fault
fault_kept (Ok done) fault same = elim same [ ]
fault_kept (Err told) fault same = ap Err same

pub unreachable-requires : goal.unreachable-requires
unreachable-requires g c =
    let some = c.stands_for_some_commands.ensures in
    let commands = some.0 in
    let settings = c.args.self.now.unsent.settings in
    not_refused settings commands c.in_ok-bytes.bytes c.in_default.field-0
    (sym (c.is_closed.ensures commands some.1) ∙ c.if-is_closed.false)
    (offered_within c.args.self.now commands some.1 c.args.max_count c.args.max_bytes c.in_ok-bytes.bytes
    (as_taken _ c.in_ok-bytes.ensures.taken c.offer-offer.ensures.within))
    (ap (told_by (taken_reply (promises_after settings commands))) (sym c.in_default.is)
    ∙ (c.take_sent.ensures.obeys.answer c.take_sent.ensures.frugal).says commands some.1)

pub returns-clause-sends : goal.returns-clause-sends
returns-clause-sends g c = record {
  sent = λ commands stands. c.offer-offer.ensures.sent
      ∙ ap (λ n. with_more (g.S.Socket.sent c.args.socket.now) (take n (concat
      (offered (min most_pieces c.args.max_count) c.args.max_bytes c.args.self.now.unsent)))) (sym c.in_ok-bytes.ensures.taken)
      ∙ ap (with_more (g.S.Socket.sent c.args.socket.now))
      (offered_are_gathered c.args.self.now commands stands c.args.max_count c.args.max_bytes c.in_ok-bytes.bytes
      (as_taken _ c.in_ok-bytes.ensures.taken c.offer-offer.ensures.within));
  obeys = c.in-Ok.ensures.obeys;
  next = c.in-Ok.ensures.next;
  more = λ commands stands. ap not (c.is_empty.ensures commands stands);
}

pub returns-in_err-bytes-clause-asks : goal.returns-in_err-bytes-clause-asks
returns-in_err-bytes-clause-asks g c =
    asks_by (λ commands stands. sym c.if-is_closed.false ∙ c.is_closed.ensures commands stands)
    c.args.max_count c.args.max_bytes _ _ _ _ c.offer-offer.result c.offer-offer.ensures c.from_residual.result
    (fault_kept c.from_residual.result c.in_err-bytes.field-0.0 c.from_residual.ensures.1 ∙ c.in_err-bytes.ensures.told)
    (no_room_told c.from_residual.result _ c.from_residual.ensures.0)

pub returns-clause-asks : goal.returns-clause-asks
returns-clause-asks g c =
    asks_by (λ commands stands. sym c.if-is_closed.false ∙ c.is_closed.ensures commands stands)
    c.args.max_count c.args.max_bytes _ _ _ _ c.offer-offer.result c.offer-offer.ensures _ (sym c.in_ok-bytes.was ∙ c.taken_of.ensures.told)
    c.is_blocked.ensures
