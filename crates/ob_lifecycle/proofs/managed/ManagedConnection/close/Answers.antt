use Rattle.std.proofs.Common.{refl, subst, ap, ◌∙◌}
use Rattle.std.specs.Prelude.{if◌then◌else◌}
use Rattle.ob_lifecycle.specs.Strain.{watched_by, strained}
use Rattle.ob_types.specs.declared.command.Command.TheVariants.{Close}
use Rattle.ob_connection.specs.Obeying.{taken_reply}
use Rattle.ob_lifecycle.specs.Events.{happens}
use Rattle.ob_lifecycle.specs.Inside.{managed_of}
use Rattle.ob_lifecycle.specs.Managed.{Brings}
use Rattle.ob_lifecycle.proofs.Bringing.{brings_command, stands_on, managed_with}
use Rattle.ob_lifecycle.proofs.Tallies.{fits_some}
use Rattle.ob_lifecycle.proofs.managed.ManagedConnection.close.Goals as goal

pub close-answer-requires : goal.close-answer-requires
close-answer-requires c = fits_some c.self.invariant

pub invariant_of-self : goal.invariant_of-self
invariant_of-self c =
    stands_on (managed_of c.self.inside) _ _ _ c.self.invariant
    (brings_command (managed_of c.self.inside) c.close-answer.new.connection c.reach-finished.new.self c.close-answer.new.tally c.told.new.self c.after.new.self (Close c.args.cause) taken_reply (λ taken. taken.change)
    c.close-answer.result c.waiting_count.result c.is_empty.result c.reach-finished.result c.close-answer.ensures.obeys c.waiting_count.ensures c.is_empty.ensures
    (c.after.ensures ∙ ap (λ b. if b then watched_by c.self.inside.limits.least_bytes (Close c.args.cause) c.is_empty.result c.self.inside.ending.watch else c.self.inside.ending.watch) c.is_ok.ensures.value)
    c.reach-finished.ensures.reached c.reach-finished.ensures.told c.close-answer.ensures.counts refl
    (λ promises value. refl) (c.told.ensures ∙ ap (λ told. strained told c.self.inside.strain) c.of_taking.ensures))

pub returns-clause-brings : goal.returns-clause-brings
returns-clause-brings c =
    subst (λ old. Brings old (happens (Close c.args.cause) c.close-answer.result) c.reach-finished.result
    (managed_with (managed_of c.self.inside) c.close-answer.new.connection c.reach-finished.new.self c.close-answer.new.tally c.told.new.self)) c.self.view_is
    (brings_command (managed_of c.self.inside) c.close-answer.new.connection c.reach-finished.new.self c.close-answer.new.tally c.told.new.self c.after.new.self (Close c.args.cause) taken_reply (λ taken. taken.change)
    c.close-answer.result c.waiting_count.result c.is_empty.result c.reach-finished.result c.close-answer.ensures.obeys c.waiting_count.ensures c.is_empty.ensures
    (c.after.ensures ∙ ap (λ b. if b then watched_by c.self.inside.limits.least_bytes (Close c.args.cause) c.is_empty.result c.self.inside.ending.watch else c.self.inside.ending.watch) c.is_ok.ensures.value)
    c.reach-finished.ensures.reached c.reach-finished.ensures.told c.close-answer.ensures.counts refl
    (λ promises value. refl) (c.told.ensures ∙ ap (λ told. strained told c.self.inside.strain) c.of_taking.ensures))
