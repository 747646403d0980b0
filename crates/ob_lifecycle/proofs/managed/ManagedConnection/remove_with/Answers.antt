use Rattle.std.proofs.Common.{refl, subst, ap, ◌∙◌}
use Rattle.std.specs.Prelude.{if◌then◌else◌}
use Rattle.ob_lifecycle.specs.Strain.{watched_by, strained}
use Rattle.ob_types.specs.declared.command.Command.TheVariants.{RemoveWith}
use Rattle.ob_connection.specs.Obeying.{removed_reply}
use Rattle.ob_lifecycle.specs.Events.{happens}
use Rattle.ob_lifecycle.specs.Inside.{managed_of}
use Rattle.ob_lifecycle.specs.Managed.{Brings}
use Rattle.ob_lifecycle.proofs.Bringing.{brings_command, stands_on, managed_with}
use Rattle.ob_lifecycle.proofs.Tallies.{fits_some}
use Rattle.ob_lifecycle.proofs.managed.ManagedConnection.remove_with.Goals as goal

pub remove_with-answer-requires : goal.remove_with-answer-requires
remove_with-answer-requires c = fits_some c.self.invariant

pub invariant_of-self : goal.invariant_of-self
invariant_of-self c =
    stands_on (managed_of c.self.inside) _ _ _ c.self.invariant
    (brings_command (managed_of c.self.inside) c.remove_with-answer.new.connection c.reach-finished.new.self c.remove_with-answer.new.tally c.told.new.self c.after.new.self (RemoveWith c.args.cause) removed_reply (λ removed. removed.change)
    c.remove_with-answer.result c.waiting_count.result c.is_empty.result c.reach-finished.result c.remove_with-answer.ensures.obeys c.waiting_count.ensures c.is_empty.ensures
    (c.after.ensures ∙ ap (λ b. if b then watched_by c.self.inside.limits.least_bytes (RemoveWith c.args.cause) c.is_empty.result c.self.inside.ending.watch else c.self.inside.ending.watch) c.is_ok.ensures.value)
    c.reach-finished.ensures.reached c.reach-finished.ensures.told c.remove_with-answer.ensures.counts refl
    (λ promises value. refl) (c.told.ensures ∙ ap (λ told. strained told c.self.inside.strain) c.of_removal.ensures))

pub returns-clause-brings : goal.returns-clause-brings
returns-clause-brings c =
    subst (λ old. Brings old (happens (RemoveWith c.args.cause) c.remove_with-answer.result) c.reach-finished.result
    (managed_with (managed_of c.self.inside) c.remove_with-answer.new.connection c.reach-finished.new.self c.remove_with-answer.new.tally c.told.new.self)) c.self.view_is
    (brings_command (managed_of c.self.inside) c.remove_with-answer.new.connection c.reach-finished.new.self c.remove_with-answer.new.tally c.told.new.self c.after.new.self (RemoveWith c.args.cause) removed_reply (λ removed. removed.change)
    c.remove_with-answer.result c.waiting_count.result c.is_empty.result c.reach-finished.result c.remove_with-answer.ensures.obeys c.waiting_count.ensures c.is_empty.ensures
    (c.after.ensures ∙ ap (λ b. if b then watched_by c.self.inside.limits.least_bytes (RemoveWith c.args.cause) c.is_empty.result c.self.inside.ending.watch else c.self.inside.ending.watch) c.is_ok.ensures.value)
    c.reach-finished.ensures.reached c.reach-finished.ensures.told c.remove_with-answer.ensures.counts refl
    (λ promises value. refl) (c.told.ensures ∙ ap (λ told. strained told c.self.inside.strain) c.of_removal.ensures))
