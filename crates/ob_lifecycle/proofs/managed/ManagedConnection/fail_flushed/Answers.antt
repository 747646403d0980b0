use Rattle.std.proofs.Common.{refl, subst, ap, ◌∙◌}
use Rattle.std.specs.Prelude.{if◌then◌else◌}
use Rattle.ob_lifecycle.specs.Strain.{watched_by, strained}
use Rattle.ob_types.specs.declared.command.Command.TheVariants.{FailFlushed}
use Rattle.ob_connection.specs.Obeying.{taken_reply}
use Rattle.ob_lifecycle.specs.Events.{happens}
use Rattle.ob_lifecycle.specs.Inside.{managed_of}
use Rattle.ob_lifecycle.specs.Managed.{Brings}
use Rattle.ob_lifecycle.proofs.Bringing.{brings_command, stands_on, managed_with}
use Rattle.ob_lifecycle.proofs.Tallies.{fits_some}
use Rattle.ob_lifecycle.proofs.managed.ManagedConnection.fail_flushed.Goals as goal

pub fail_flushed-answer-requires : goal.fail_flushed-answer-requires
fail_flushed-answer-requires c = fits_some c.self.invariant

pub invariant_of-self : goal.invariant_of-self
invariant_of-self c =
    stands_on (managed_of c.self.inside) _ _ _ c.self.invariant
    (brings_command (managed_of c.self.inside) c.fail_flushed-answer.new.connection c.reach-finished.new.self c.fail_flushed-answer.new.tally c.told.new.self c.after.new.self (FailFlushed c.args.cause c.args.notify) taken_reply (λ taken. taken.change)
    c.fail_flushed-answer.result c.waiting_count.result c.is_empty.result c.reach-finished.result c.fail_flushed-answer.ensures.obeys c.waiting_count.ensures c.is_empty.ensures
    (c.after.ensures ∙ ap (λ b. if b then watched_by c.self.inside.limits.least_bytes (FailFlushed c.args.cause c.args.notify) c.is_empty.result c.self.inside.ending.watch else c.self.inside.ending.watch) c.is_ok.ensures.value)
    c.reach-finished.ensures.reached c.reach-finished.ensures.told c.fail_flushed-answer.ensures.counts refl
    (λ promises value. refl) (c.told.ensures ∙ ap (λ told. strained told c.self.inside.strain) c.of_taking.ensures))

pub returns-clause-brings : goal.returns-clause-brings
returns-clause-brings c =
    subst (λ old. Brings old (happens (FailFlushed c.args.cause c.args.notify) c.fail_flushed-answer.result) c.reach-finished.result
    (managed_with (managed_of c.self.inside) c.fail_flushed-answer.new.connection c.reach-finished.new.self c.fail_flushed-answer.new.tally c.told.new.self)) c.self.view_is
    (brings_command (managed_of c.self.inside) c.fail_flushed-answer.new.connection c.reach-finished.new.self c.fail_flushed-answer.new.tally c.told.new.self c.after.new.self (FailFlushed c.args.cause c.args.notify) taken_reply (λ taken. taken.change)
    c.fail_flushed-answer.result c.waiting_count.result c.is_empty.result c.reach-finished.result c.fail_flushed-answer.ensures.obeys c.waiting_count.ensures c.is_empty.ensures
    (c.after.ensures ∙ ap (λ b. if b then watched_by c.self.inside.limits.least_bytes (FailFlushed c.args.cause c.args.notify) c.is_empty.result c.self.inside.ending.watch else c.self.inside.ending.watch) c.is_ok.ensures.value)
    c.reach-finished.ensures.reached c.reach-finished.ensures.told c.fail_flushed-answer.ensures.counts refl
    (λ promises value. refl) (c.told.ensures ∙ ap (λ told. strained told c.self.inside.strain) c.of_taking.ensures))
