use Rattle.std.proofs.Common.{sym, ap, ◌∙◌}
use Rattle.ob_shared_connection.specs.Ruled.{is_owed}
use Rattle.ob_shared_connection.specs.Steps.{Knows}
use Rattle.ob_shared_connection.specs.declared.bell.Waiter.TheVariants.{Writer, Sender}
use Rattle.ob_shared_connection.specs.declared.view.Bells.{Bells}
use Rattle.ob_shared_connection.proofs.caller.Caller.leave.Goals as goal

pub hush-writers-requires-clause-unowed : goal.hush-writers-requires-clause-unowed
hush-writers-requires-clause-unowed c =
    ap (λ (me : Knows). is_owed Writer me.0.bells) c.publish.ensures.me
    ∙ ap (λ (bells : Bells). is_owed Writer bells) c.ask-parting.ensures.holds.unheard_yet

pub hush-work-requires-clause-unowed : goal.hush-work-requires-clause-unowed
hush-work-requires-clause-unowed c =
    (c.hush-writers.ensures.hushes.others Sender (λ e. cc e)).1
    ∙ ap (λ (me : Knows). is_owed Sender me.0.bells) c.publish.ensures.me
    ∙ ap (λ (bells : Bells). is_owed Sender bells) c.ask-parting.ensures.holds.unheard_yet

pub leave-requires-clause-writers : goal.leave-requires-clause-writers
leave-requires-clause-writers c =
    c.hush-writers.ensures.hushes.owes ∙ sym (c.hush-work.ensures.hushes.others Writer (λ e. cc e)).1
