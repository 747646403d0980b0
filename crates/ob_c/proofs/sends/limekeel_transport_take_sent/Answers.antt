use Rattle.std.proofs.Common.{◌∙◌, ap, sym, subst, refl, Some}
use Rattle.std.specs.Prelude.{Option}
use Rattle.ob_types.specs.declared.command.Command.TheVariants as command
use Rattle.ob_types.specs.declared.promise.Outcome.TheVariants.{Success}
use Rattle.ob_shared_connection.specs.Calls.{Makes, Taking}
use Rattle.ob_shared_connection.specs.Values.{HandleValue}
use Rattle.ob_c.specs.Replies.{taken_in_c}
use Rattle.ob_c.specs.Sharing.{Tries}
use Rattle.ob_c.specs.declared.transport.Transport.{Transport}
use Rattle.ob_c.proofs.sends.limekeel_transport_take_sent.Goals as goal

pub returns-in-Some-clause-takes : goal.returns-in-Some-clause-takes
returns-in-Some-clause-takes c =
    let after = c.try_take_sent.new.self in
    subst (λ (value : Option HandleValue). Tries value (Makes (Taking Success) (command.RemoveBytes c.args.n)) taken_in_c c.of-in-Some.result (Some after))
    (sym (ap (λ (transport : Transport). transport.value) (sym c.is_open.ensures.1) ∙ c.reach.ensures.value))
    (Some c.in-Some.answer, (c.of-in-Some.ensures ∙ ap taken_in_c c.accepted.ensures, after, refl, c.in-Some.ensures.under))
