use Rattle.std.proofs.Common.{refl, subst, sym, ap, ◌∙◌, false}
use Rattle.std.specs.Prelude.{Ok, Err}
use Rattle.ob_types.specs.declared.command.Command.TheVariants.{Flush}
use Rattle.ob_types.specs.declared.refusal.Refusal.{Refusal}
use Rattle.ob_connection.specs.declared.replies.Flushed.{Flushed}
use Rattle.ob_connection.specs.Obeying.{flushed_reply}
use Rattle.ob_lifecycle.specs.Events.{happens}
use Rattle.ob_lifecycle.specs.Inside.{managed_of}
use Rattle.ob_lifecycle.specs.Managed.{Brings}
use Rattle.ob_lifecycle.specs.declared.fault.WriteFault.TheVariants.{Refused as Declined}
use Rattle.ob_lifecycle.proofs.Bringing.{brings_unasked, stands_on}
use Rattle.ob_lifecycle.proofs.Pending.{flush_plain}
use Rattle.ob_lifecycle.proofs.Writing.{refused_brings}
use Rattle.ob_lifecycle.proofs.managed.ManagedConnection.flush.Goals as goal
use Rattle.ob_lifecycle.proofs.managed.ManagedConnection.flush.Goals.{in-Ok, in-Err}

brings : (c : goal.Joined-flush) → Brings (managed_of c.self-2.inside) (happens Flush c.match-flush.result.answer) c.match-flush.result.finished
    (managed_of c.match-flush.self-inside)
brings c = elim c.match-flush.branch [
  | in-Ok w ↦ subst (λ told. Brings (managed_of c.self-2.inside) (happens Flush told.answer) told.finished (managed_of c.match-flush.self-inside)) (sym w.result-is)
      (subst (λ inside. Brings (managed_of c.self-2.inside) (happens {A = Flushed} Flush (Ok w.in-Ok.flushed)) false (managed_of inside)) (sym w.self-inside-is)
      (brings_unasked (managed_of c.self-2.inside) c.flush.new.self c.self-2.inside.tally w.changed.new.self w.after.new.self Flush flushed_reply (λ flushed. flushed.change)
      w.in-Ok.flushed w.is_empty.result (ap (λ managed. managed.ending.asked) (c.self-2.view_is ∙ sym c.self.view_is) ∙ c.if-self.false)
      w.in-Ok.ensures.obeys w.is_empty.ensures w.after.ensures
      (flush_plain {E = Refusal} c.self-2.inside.connection c.self-2.inside.tally (Ok w.in-Ok.flushed) (ap (λ managed. managed.tally.cancels) (c.self-2.view_is ∙ sym c.self.view_is) ∙ c.if-self-2.false)) refl (λ promises value. refl) w.changed.ensures))
  | in-Err w ↦ subst (λ told. Brings (managed_of c.self-2.inside) (happens Flush told.answer) told.finished (managed_of c.match-flush.self-inside)) (sym w.result-is)
      (subst (λ refusal. Brings (managed_of c.self-2.inside) (happens {A = Flushed} Flush (Err refusal)) false (managed_of c.match-flush.self-inside)) (sym w.declined.ensures.same)
      (subst (λ inside. Brings (managed_of c.self-2.inside) (happens {A = Flushed} Flush (Err w.in-Err.refusal)) false (managed_of inside)) (sym w.self-inside-is)
      (refused_brings (managed_of c.self-2.inside) c.flush.new.self w.declined.new.self (Declined w.in-Err.refusal)
      w.in-Err.ensures.obeys.refused w.declined.ensures.counted)))
]

pub invariant_of-self : goal.invariant_of-self
invariant_of-self c = stands_on (managed_of c.self-2.inside) _ _ _ c.self-2.invariant (brings c)

pub returns-clause-brings : goal.returns-clause-brings
returns-clause-brings c =
    subst (λ old. Brings old (happens Flush c.match-flush.result.answer) c.match-flush.result.finished (managed_of c.match-flush.self-inside))
    c.self-2.view_is (brings c)
