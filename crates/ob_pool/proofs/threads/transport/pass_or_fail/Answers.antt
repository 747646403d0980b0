use Rattle.std.proofs.Common.{true, ap, arith}
use Rattle.std.specs.Prelude.{Err}
use Rattle.ob_transport.specs.Pass.{failures_in}
use Rattle.ob_transport.specs.declared.fault.Pass.{Pass}
use Rattle.ob_pool.proofs.Passing.{failed_once, failing_alike, passed, passes_alone, records_alone}
use Rattle.ob_pool.proofs.threads.transport.pass_or_fail.Goals as goal

pub returns-in-Ok-Idle-clause-failings : goal.returns-in-Ok-Idle-clause-failings
returns-in-Ok-Idle-clause-failings g c =
    let p = passed _ _ _ _ _ _ _ c.pass.ensures.by_front in
    omega (arith, p, c.pass.ensures.accounted.failures, ap failures_in c.in-Ok-Idle.is)

pub returns-in-Ok-Cleared-clause-failings : goal.returns-in-Ok-Cleared-clause-failings
returns-in-Ok-Cleared-clause-failings g c =
    let p = passed _ _ _ _ _ _ _ c.pass.ensures.by_front in
    omega (arith, p, c.pass.ensures.accounted.failures, ap failures_in c.in-Ok-Cleared.is)

pub returns-in-Ok-clause-failings : goal.returns-in-Ok-clause-failings
returns-in-Ok-clause-failings g c =
    let p = passed _ _ _ _ _ _ _ c.pass.ensures.by_front in
    let once = failed_once c.record.result _ c.in-Ok.is _ _ _ _ _ c.record.ensures.is_recording in
    let counted = ap (λ fault. failures_in {A = Pass} (Err fault)) c.in-Err-Sink.field-0-is in
    omega (arith, p, once, c.in-Err-Sink.ensures.accounted.failures, counted)

pub returns-in-Ok-Idle-clause-alike : goal.returns-in-Ok-Idle-clause-alike
returns-in-Ok-Idle-clause-alike g c = c.pass.ensures.accounted.alike (λ taken is. absurd (cc is))

pub returns-in-Ok-Cleared-clause-alike : goal.returns-in-Ok-Cleared-clause-alike
returns-in-Ok-Cleared-clause-alike g c = c.pass.ensures.accounted.alike (λ taken is. absurd (cc is))

pub returns-in-Ok-clause-alike : goal.returns-in-Ok-clause-alike
returns-in-Ok-clause-alike g c =
    failing_alike (g.B.Booked.history c.args.booked.now) (g.B.Booked.history c.pass.new.booked)
    (g.B.Booked.history c.record.new.self) (g.S.Sink.content c.args.sink.now) (g.S.Sink.content c.pass.new.sink)
    (g.B.Booked.caller c.pass.new.booked) (record { 0 = c.in-Err-Sink.fault.0 }) true
    (c.in-Err-Sink.ensures.accounted.alike (λ taken is. absurd (cc (is, c.in-Err-Sink.field-0-is))))
    (c.record.ensures.is_recording.after (λ wanting. absurd (cc (wanting, c.in-Ok.is))))

pub returns-in-Ok-Idle-clause-own : goal.returns-in-Ok-Idle-clause-own
returns-in-Ok-Idle-clause-own g c = passes_alone _ _ _ _ _ _ _ c.pass.ensures.by_front

pub returns-in-Ok-Cleared-clause-own : goal.returns-in-Ok-Cleared-clause-own
returns-in-Ok-Cleared-clause-own g c = passes_alone _ _ _ _ _ _ _ c.pass.ensures.by_front

pub returns-in-Err-record-clause-own : goal.returns-in-Err-record-clause-own
returns-in-Err-record-clause-own g c =
    records_alone (g.B.Booked.history c.args.booked.now) (g.B.Booked.history c.pass.new.booked)
    (g.B.Booked.history c.record.new.self) (g.B.Booked.caller c.args.booked.now) (g.B.Booked.caller c.pass.new.booked) _
    c.record.result c.pass.ensures.caller (passes_alone _ _ _ _ _ _ _ c.pass.ensures.by_front)
    c.record.ensures.is_recording

pub returns-in-Err : goal.returns-in-Err
returns-in-Err g c = record {
  caller = c.pass.ensures.caller;
  own = passes_alone _ _ _ _ _ _ _ c.pass.ensures.by_front;
  alike = tt;
  failings = tt;
  fault = tt;
}
