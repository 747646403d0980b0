use Rattle.std.proofs.Common.{subst, ap, ◌∙◌}
use Rattle.std.specs.Prelude.{if◌then◌else◌}
use Rattle.ob_types.specs.declared.command.Command.TheVariants.{Close}
use Rattle.ob_lifecycle.specs.Strain.{watched_by, strained}
use Rattle.ob_lifecycle.specs.Inside.{managed_of}
use Rattle.ob_lifecycle.specs.Managed.{Brings}
use Rattle.ob_lifecycle.proofs.Bringing.{managed_with, stands_on}
use Rattle.ob_lifecycle.proofs.Tallies.{fits_some}
use Rattle.ob_lifecycle.proofs.Ends.{brings_give_up}
use Rattle.ob_lifecycle.proofs.managed.ManagedConnection.give_up.Goals as goal
use Rattle.ob_lifecycle.specs.Events.{giving_up_happens}

pub give_up-answer-requires : goal.give_up-answer-requires
give_up-answer-requires c = fits_some c.self.invariant

pub invariant_of-self : goal.invariant_of-self
invariant_of-self c =
    stands_on (managed_of c.self.inside) _ _ _ c.self.invariant
    (brings_give_up (managed_of c.self.inside) c.give_up-answer.new.connection c.reach-finished.new.self c.give_up-answer.new.tally c.told.new.self c.args.cause
    c.give_up-answer.result c.waiting_count.result c.after.new.self c.is_empty.result c.reach-finished.result c.give_up-answer.ensures.gives_up
    c.give_up-answer.ensures.refused c.waiting_count.ensures c.is_empty.ensures
    (c.after.ensures ∙ ap (λ b. if b then watched_by c.self.inside.limits.least_bytes (Close c.args.cause) c.is_empty.result c.self.inside.ending.watch else c.self.inside.ending.watch) c.is_ok.ensures.value)
    c.reach-finished.ensures.reached c.reach-finished.ensures.told c.give_up-answer.ensures.counts
    (c.told.ensures ∙ ap (λ told. strained told c.self.inside.strain) c.of_taking.ensures))

pub returns-clause-brings : goal.returns-clause-brings
returns-clause-brings c =
    subst (λ old. Brings old (giving_up_happens c.args.cause c.give_up-answer.result) c.reach-finished.result
    (managed_with (managed_of c.self.inside) c.give_up-answer.new.connection c.reach-finished.new.self c.give_up-answer.new.tally c.told.new.self)) c.self.view_is
    (brings_give_up (managed_of c.self.inside) c.give_up-answer.new.connection c.reach-finished.new.self c.give_up-answer.new.tally c.told.new.self c.args.cause
    c.give_up-answer.result c.waiting_count.result c.after.new.self c.is_empty.result c.reach-finished.result c.give_up-answer.ensures.gives_up
    c.give_up-answer.ensures.refused c.waiting_count.ensures c.is_empty.ensures
    (c.after.ensures ∙ ap (λ b. if b then watched_by c.self.inside.limits.least_bytes (Close c.args.cause) c.is_empty.result c.self.inside.ending.watch else c.self.inside.ending.watch) c.is_ok.ensures.value)
    c.reach-finished.ensures.reached c.reach-finished.ensures.told c.give_up-answer.ensures.counts
    (c.told.ensures ∙ ap (λ told. strained told c.self.inside.strain) c.of_taking.ensures))
