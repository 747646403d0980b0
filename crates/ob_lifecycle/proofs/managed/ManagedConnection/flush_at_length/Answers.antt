use Rattle.std.proofs.Common.{refl, subst, ap, ◌∙◌}
use Rattle.std.specs.Prelude.{if◌then◌else◌}
use Rattle.ob_lifecycle.specs.Strain.{watched_by, strained}
use Rattle.ob_types.specs.declared.command.Command.TheVariants.{Flush}
use Rattle.ob_connection.specs.Obeying.{flushed_reply}
use Rattle.ob_lifecycle.specs.Events.{happens}
use Rattle.ob_lifecycle.specs.Inside.{managed_of}
use Rattle.ob_lifecycle.specs.Managed.{Brings}
use Rattle.ob_lifecycle.proofs.Bringing.{brings_command, stands_on, managed_with}
use Rattle.ob_lifecycle.proofs.Tallies.{fits_some}
use Rattle.ob_lifecycle.proofs.managed.ManagedConnection.flush_at_length.Goals as goal

pub flush-answer-requires : goal.flush-answer-requires
flush-answer-requires c = fits_some c.self.invariant

pub invariant_of-self : goal.invariant_of-self
invariant_of-self c =
    stands_on (managed_of c.self.inside) _ _ _ c.self.invariant
    (brings_command (managed_of c.self.inside) c.flush-answer.new.connection c.reach-finished.new.self c.flush-answer.new.tally c.told.new.self c.after.new.self Flush flushed_reply (λ flushed. flushed.change)
    c.flush-answer.result c.waiting_count.result c.is_empty.result c.reach-finished.result c.flush-answer.ensures.obeys c.waiting_count.ensures c.is_empty.ensures
    (c.after.ensures ∙ ap (λ b. if b then watched_by c.self.inside.limits.least_bytes Flush c.is_empty.result c.self.inside.ending.watch else c.self.inside.ending.watch) c.is_ok.ensures.value)
    c.reach-finished.ensures.reached c.reach-finished.ensures.told c.flush-answer.ensures.counts refl
    (λ promises value. refl) (c.told.ensures ∙ ap (λ told. strained told c.self.inside.strain) c.of_flush.ensures))

pub returns-clause-brings : goal.returns-clause-brings
returns-clause-brings c =
    subst (λ old. Brings old (happens Flush c.flush-answer.result) c.reach-finished.result
    (managed_with (managed_of c.self.inside) c.flush-answer.new.connection c.reach-finished.new.self c.flush-answer.new.tally c.told.new.self)) c.self.view_is
    (brings_command (managed_of c.self.inside) c.flush-answer.new.connection c.reach-finished.new.self c.flush-answer.new.tally c.told.new.self c.after.new.self Flush flushed_reply (λ flushed. flushed.change)
    c.flush-answer.result c.waiting_count.result c.is_empty.result c.reach-finished.result c.flush-answer.ensures.obeys c.waiting_count.ensures c.is_empty.ensures
    (c.after.ensures ∙ ap (λ b. if b then watched_by c.self.inside.limits.least_bytes Flush c.is_empty.result c.self.inside.ending.watch else c.self.inside.ending.watch) c.is_ok.ensures.value)
    c.reach-finished.ensures.reached c.reach-finished.ensures.told c.flush-answer.ensures.counts refl
    (λ promises value. refl) (c.told.ensures ∙ ap (λ told. strained told c.self.inside.strain) c.of_flush.ensures))
