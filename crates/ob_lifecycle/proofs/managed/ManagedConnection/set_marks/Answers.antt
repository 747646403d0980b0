use Rattle.std.proofs.Common.{refl, subst, ap, ◌∙◌}
use Rattle.std.specs.Prelude.{if◌then◌else◌, None}
use Rattle.ob_lifecycle.specs.Strain.{watched_by, strained}
use Rattle.ob_types.specs.declared.command.Command.TheVariants.{SetMarks}
use Rattle.ob_connection.specs.Obeying.{done_reply}
use Rattle.ob_lifecycle.specs.Events.{happens}
use Rattle.ob_lifecycle.specs.Inside.{managed_of}
use Rattle.ob_lifecycle.specs.Managed.{Brings}
use Rattle.ob_lifecycle.proofs.Bringing.{brings_command, stands_on, managed_with}
use Rattle.ob_lifecycle.proofs.Tallies.{cancels_step, quiet}
use Rattle.ob_lifecycle.proofs.managed.ManagedConnection.set_marks.Goals as goal

pub invariant_of-self : goal.invariant_of-self
invariant_of-self c =
    stands_on (managed_of c.self.inside) _ _ _ c.self.invariant
    (brings_command (managed_of c.self.inside) c.set_marks-answer.new.self c.reach-finished.new.self c.self.inside.tally c.told.new.self c.after.new.self (SetMarks c.args.marks) done_reply (λ done. None)
    c.set_marks-answer.result c.waiting_count.result c.is_empty.result c.reach-finished.result c.set_marks-answer.ensures.obeys c.waiting_count.ensures c.is_empty.ensures
    (c.after.ensures ∙ ap (λ b. if b then watched_by c.self.inside.limits.least_bytes (SetMarks c.args.marks) c.is_empty.result c.self.inside.ending.watch else c.self.inside.ending.watch) c.is_ok.ensures.value)
    c.reach-finished.ensures.reached c.reach-finished.ensures.told (quiet c.self.inside.connection c.self.inside.tally (SetMarks c.args.marks) c.set_marks-answer.result refl refl (λ commands. refl) (λ commands. refl) (λ commands. cancels_step commands (SetMarks c.args.marks))) refl
    (λ promises value. refl) (c.told.ensures ∙ ap (λ told. strained told c.self.inside.strain) c.of_done.ensures))

pub returns-clause-brings : goal.returns-clause-brings
returns-clause-brings c =
    subst (λ old. Brings old (happens (SetMarks c.args.marks) c.set_marks-answer.result) c.reach-finished.result
    (managed_with (managed_of c.self.inside) c.set_marks-answer.new.self c.reach-finished.new.self c.self.inside.tally c.told.new.self)) c.self.view_is
    (brings_command (managed_of c.self.inside) c.set_marks-answer.new.self c.reach-finished.new.self c.self.inside.tally c.told.new.self c.after.new.self (SetMarks c.args.marks) done_reply (λ done. None)
    c.set_marks-answer.result c.waiting_count.result c.is_empty.result c.reach-finished.result c.set_marks-answer.ensures.obeys c.waiting_count.ensures c.is_empty.ensures
    (c.after.ensures ∙ ap (λ b. if b then watched_by c.self.inside.limits.least_bytes (SetMarks c.args.marks) c.is_empty.result c.self.inside.ending.watch else c.self.inside.ending.watch) c.is_ok.ensures.value)
    c.reach-finished.ensures.reached c.reach-finished.ensures.told (quiet c.self.inside.connection c.self.inside.tally (SetMarks c.args.marks) c.set_marks-answer.result refl refl (λ commands. refl) (λ commands. refl) (λ commands. cancels_step commands (SetMarks c.args.marks))) refl
    (λ promises value. refl) (c.told.ensures ∙ ap (λ told. strained told c.self.inside.strain) c.of_done.ensures))
