use Rattle.std.proofs.Common.{◌≡◌, ap, subst, ◌∙◌, arith}
use Rattle.std.specs.Prelude.{None}
use Rattle.ob_types.specs.PendingSize.{counted_bytes}
use Rattle.ob_covered.proofs.Pending.{shown}
use Rattle.ob_covered.proofs.Written.{put_within, refused_as, size_is, takes_nothing, tells_nothing}
use Rattle.ob_covered.specs.Budgeted.{BudgetedValue, WritesWithin}
use Rattle.ob_covered.proofs.budgeted.Budgeted.write.Goals as goal

pub invariant_of-self : goal.invariant_of-self
invariant_of-self c =
    let old = c.self.inside.connection in
    let size : c.in-Ok.size ≡ counted_bytes old.unsent.settings.estimate c.args.message =
    size_is c.estimate.result c.args.message c.in-Ok.size c.in-Ok.ensures
    ∙ ap (λ estimate. counted_bytes estimate c.args.message) c.estimate.ensures in
    put_within (λ not. not.why) old c.put-answer.new.connection c.args.message c.put-answer.result c.look-pending.result.total
    c.self.inside.cover.seat.account.held c.self.inside.cover.seat.account.held c.self.invariant (omega arith)
    c.put-answer.ensures.grown c.put-answer.ensures.refused (shown old c.look-pending.result c.look-pending.ensures)
    (omega (arith, c.if-from-held.false, c.held.ensures, c.from.ensures, c.from-2.ensures, size))

pub returns-clause-writes : goal.returns-clause-writes
returns-clause-writes c =
    let cover = c.self.inside.cover in
    let old : BudgetedValue = record { connection = c.self.inside.connection; cover = cover } in
    let new : BudgetedValue = record { connection = c.put-answer.new.connection; cover = cover } in
    subst (λ v. WritesWithin (λ not. not.why) c.args.message v (record { answer = c.put-answer.result; pressure = None }) new)
    c.self.view_is
    (record {
      written = c.put-answer.ensures.written;
      room = c.put-answer.ensures.room;
      refused = refused_as (λ not. not.why) old new c.args.message c.put-answer.result c.put-answer.ensures.refused;
      tells = tells_nothing cover;
      sparing = λ now is. takes_nothing _ cover;
    })
