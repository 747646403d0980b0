use Rattle.std.proofs.Common.{arith, rules, inl, inr, sym, ◌∙◌, subst}
use Rattle.std.proofs.lemmas.Result.{err_from_is_err_and}
use Rattle.ob_transport.specs.Pass.{GoesOn, standing}
use Rattle.ob_transport.specs.declared.draining.Drained.{Drained}
use Rattle.ob_transport.specs.declared.fault.Pass.{Pass}
use Rattle.ob_transport.specs.declared.fault.PassFault.TheVariants.{Unbooked}
use Rattle.ob_transport.proofs.Turns.{accounted_more, alike_both, alike_but, booked_with, one_more_pass, same_fault}
use Rattle.ob_transport.proofs.draining.drain.Goals as goal

pub returns-in_err-pass-clause-accounted : goal.returns-in_err-pass-clause-accounted
returns-in_err-pass-clause-accounted g c =
    let p = err_from_is_err_and c.from_residual.result c.from_residual.ensures.1 in
    let fault = c.in_err-pass.field-0.0 in
    let passed = c.in_err-pass.ensures.accounted in
    let kept = c.loop-turn.invariant in
    rw (p.1, p.2) record {
      alike = λ booked. alike_both kept.2
          (passed.alike (λ taken is. booked taken (same_fault {A = Pass} {B = Drained} fault (Unbooked taken) is)));
      unbooked = λ taken is. alike_but kept.2
          (passed.unbooked taken (same_fault {A = Drained} {B = Pass} fault (Unbooked taken) is));
      failures = search rules;
      full = search rules;
    }

pub returns-in-Idle-clause-accounted : goal.returns-in-Idle-clause-accounted
returns-in-Idle-clause-accounted g c =
    let kept = c.loop-turn.invariant in
    accounted_more c.in_ok-pass.field-0 _ kept.2 kept.3 c.in_ok-pass.ensures.accounted

pub returns-in-Stalled-clause-accounted : goal.returns-in-Stalled-clause-accounted
returns-in-Stalled-clause-accounted g c =
    let kept = c.loop-turn.invariant in
    accounted_more c.in_ok-pass.field-0 _ kept.2 kept.3 c.in_ok-pass.ensures.accounted

pub loop-turn-preserved : goal.loop-turn-preserved
loop-turn-preserved g c =
    let before = standing (g.B.Booked.history c.args.booked.now) (g.S.Sink.content c.args.sink.now) in
    let now = standing (g.B.Booked.history c.loop-turn.booked) (g.S.Sink.content c.loop-turn.sink) in
    let after = standing (g.B.Booked.history c.pass.new.booked) (g.S.Sink.content c.pass.new.sink) in
    let goes : GoesOn c.in_ok-pass.field-0 =
    elim c.in-Cleared.is [ inl cleared ↦ subst GoesOn (sym cleared) tt | inr took ↦ subst GoesOn (sym took.1) tt ] in
    let kept = c.loop-turn.invariant in (
      one_more_pass c.args.limits (g.B.Booked.caller c.args.booked.now) (g.B.Booked.caller c.loop-turn.booked)
          c.loop-turn.turn before now after c.in_ok-pass.field-0 kept.0 kept.1 goes c.in_ok-pass.ensures.by_front,
      c.in_ok-pass.ensures.caller ∙ kept.1,
      alike_both kept.2 (c.in_ok-pass.ensures.accounted.alike (booked_with c.in_ok-pass.field-0)),
      omega (arith, c.in_ok-pass.ensures.accounted.failures, kept.3),
    )

-- Named for the must-fail edits that fail here: `search` finds it unasked (CONTRIBUTING.md).
pub loop-turn-init : goal.loop-turn-init
loop-turn-init g c = search rules

pub returns-clause-passes : goal.returns-clause-passes
returns-clause-passes g c = search rules
