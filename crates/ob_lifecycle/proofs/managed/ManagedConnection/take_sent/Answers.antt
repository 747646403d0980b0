use Rattle.std.proofs.Common.{refl, subst, sym, false}
use Rattle.std.specs.Prelude.{Ok, Err}
use Rattle.ob_types.specs.declared.command.Command.TheVariants.{RemoveBytes}
use Rattle.ob_types.specs.declared.refusal.Refusal.{Refusal}
use Rattle.ob_connection.specs.declared.replies.Taken.{Taken}
use Rattle.ob_connection.specs.Obeying.{taken_reply}
use Rattle.ob_lifecycle.specs.Events.{happens}
use Rattle.ob_lifecycle.specs.Inside.{managed_of}
use Rattle.ob_lifecycle.specs.Managed.{Brings}
use Rattle.ob_lifecycle.specs.declared.fault.WriteFault.TheVariants.{Refused as Declined}
use Rattle.ob_lifecycle.proofs.Bringing.{brings_command, managed_with, stands_on}
use Rattle.ob_lifecycle.proofs.Tallies.{cancels_step, quiet}
use Rattle.ob_lifecycle.proofs.Writing.{refused_brings}
use Rattle.ob_lifecycle.proofs.managed.ManagedConnection.take_sent.Goals as goal

pub invariant_of-self : goal.invariant_of-self
invariant_of-self c =
    stands_on (managed_of c.self.inside) _ _ _ c.self.invariant
    (brings_command (managed_of c.self.inside) c.take_sent.new.self c.reach-finished.new.self c.self.inside.tally c.changed.new.self c.after.new.self (RemoveBytes c.args.n) taken_reply (λ taken. taken.change)
    (Ok c.in-Ok.taken) c.waiting_count.result c.is_empty.result c.reach-finished.result c.in-Ok.ensures.obeys c.waiting_count.ensures c.is_empty.ensures c.after.ensures
    c.reach-finished.ensures.reached c.reach-finished.ensures.told
    (quiet {E = Refusal} c.self.inside.connection c.self.inside.tally (RemoveBytes c.args.n) (Ok c.in-Ok.taken) refl refl (λ commands. refl) (λ commands. refl) (λ commands. cancels_step commands (RemoveBytes c.args.n))) refl
    (λ promises value. refl) c.changed.ensures)

pub returns-in-Ok-clause-brings : goal.returns-in-Ok-clause-brings
returns-in-Ok-clause-brings c =
    subst (λ old. Brings old (happens {A = Taken} (RemoveBytes c.args.n) (Ok c.in-Ok.taken)) c.reach-finished.result
    (managed_with (managed_of c.self.inside) c.take_sent.new.self c.reach-finished.new.self c.self.inside.tally c.changed.new.self)) c.self.view_is
    (brings_command (managed_of c.self.inside) c.take_sent.new.self c.reach-finished.new.self c.self.inside.tally c.changed.new.self c.after.new.self (RemoveBytes c.args.n) taken_reply (λ taken. taken.change)
    (Ok c.in-Ok.taken) c.waiting_count.result c.is_empty.result c.reach-finished.result c.in-Ok.ensures.obeys c.waiting_count.ensures c.is_empty.ensures c.after.ensures
    c.reach-finished.ensures.reached c.reach-finished.ensures.told
    (quiet {E = Refusal} c.self.inside.connection c.self.inside.tally (RemoveBytes c.args.n) (Ok c.in-Ok.taken) refl refl (λ commands. refl) (λ commands. refl) (λ commands. cancels_step commands (RemoveBytes c.args.n))) refl
    (λ promises value. refl) c.changed.ensures)

pub invariant_of-self-in-Err : goal.invariant_of-self-in-Err
invariant_of-self-in-Err c =
    stands_on (managed_of c.self.inside) _ _ _ c.self.invariant
    (refused_brings (managed_of c.self.inside) c.take_sent.new.self c.declined.new.self (Declined c.in-Err.refusal)
    c.in-Err.ensures.obeys.refused c.declined.ensures.counted)

pub returns-in-Err-clause-brings : goal.returns-in-Err-clause-brings
returns-in-Err-clause-brings c =
    subst (λ refusal. Brings c.args.self.now (happens {A = Taken} (RemoveBytes c.args.n) (Err refusal)) false
    (managed_with (managed_of c.self.inside) c.take_sent.new.self c.self.inside.ending c.self.inside.tally c.declined.new.self)) (sym c.declined.ensures.same)
    (subst (λ old. Brings old (happens {A = Taken} (RemoveBytes c.args.n) (Err c.in-Err.refusal)) false
    (managed_with (managed_of c.self.inside) c.take_sent.new.self c.self.inside.ending c.self.inside.tally c.declined.new.self)) c.self.view_is
    (refused_brings (managed_of c.self.inside) c.take_sent.new.self c.declined.new.self (Declined c.in-Err.refusal)
    c.in-Err.ensures.obeys.refused c.declined.ensures.counted))
