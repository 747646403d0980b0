use Rattle.std.proofs.Common.{◌≡◌, ap, subst, ◌∙◌, arith}
use Rattle.ob_types.specs.PendingSize.{counted_bytes}
use Rattle.ob_covered.proofs.Pending.{shown}
use Rattle.ob_covered.specs.Budgeted.{BudgetedValue, WritesWithin}
use Rattle.ob_covered.proofs.Written.{put_within, refused_as, size_is, spares}
use Rattle.ob_covered.proofs.budgeted.Budgeted.write_beyond.Goals as goal

pub invariant_of-self-in-Ok-take : goal.invariant_of-self-in-Ok-take
invariant_of-self-in-Ok-take c =
    let old = c.self.inside.connection in
    let size : c.in-Ok.size ≡ counted_bytes old.unsent.settings.estimate c.args.message =
    size_is c.estimate.result c.args.message c.in-Ok.size c.in-Ok.ensures
    ∙ ap (λ estimate. counted_bytes estimate c.args.message) c.estimate.ensures in
    put_within (λ not. not.why) old c.put-answer-in-Ok-take.new.connection c.args.message c.put-answer-in-Ok-take.result c.look-pending.result.total
    c.take.new.self.seat.account.held c.self.inside.cover.seat.account.held c.self.invariant c.take.ensures.no_less
    c.put-answer-in-Ok-take.ensures.grown c.put-answer-in-Ok-take.ensures.refused
    (shown old c.look-pending.result c.look-pending.ensures)
    (omega (arith, c.in-Ok-take.ensures.covered, c.from.ensures, c.from-2.ensures, size))

pub returns-in-Ok-take-clause-writes : goal.returns-in-Ok-take-clause-writes
returns-in-Ok-take-clause-writes c =
    let old : BudgetedValue = record { connection = c.self.inside.connection; cover = c.self.inside.cover } in
    let new : BudgetedValue = record { connection = c.put-answer-in-Ok-take.new.connection; cover = c.take.new.self } in
    let size : c.in-Ok.size ≡ counted_bytes old.connection.unsent.settings.estimate c.args.message =
    size_is c.estimate.result c.args.message c.in-Ok.size c.in-Ok.ensures
    ∙ ap (λ estimate. counted_bytes estimate c.args.message) c.estimate.ensures in
    let put = c.put-answer-in-Ok-take in
    subst (λ v. WritesWithin (λ not. not.why) c.args.message v (record { answer = put.result; pressure = c.in-Ok-take.pressure }) new)
    c.self.view_is
    (record {
      written = put.ensures.written;
      room = put.ensures.room;
      refused = refused_as (λ not. not.why) old new c.args.message put.result put.ensures.refused;
      tells = c.in-Ok-take.ensures.told;
      sparing = λ now is.
          spares old.connection now c.look-pending.result.total (counted_bytes old.connection.unsent.settings.estimate c.args.message) _
          old.cover c.take.new.self c.stands_for_some_commands.ensures is
          (shown old.connection c.look-pending.result c.look-pending.ensures)
          (omega (arith, c.from.ensures, c.from-2.ensures, size)) c.take.ensures.sparing;
    })
