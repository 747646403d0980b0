use Rattle.std.proofs.Common.{replicate, sym, ap, ◌∙◌, ◌+◌, refl}
use Rattle.std.proofs.lemmas.List.{length-replicate}
use Rattle.ob_types.specs.declared.command.Command.TheVariants.{Write}
use Rattle.ob_types.specs.declared.message.Message.TheVariants.{Block}
use Rattle.ob_shared_connection.proofs.Accepting.{accepts_as, accepts_unrefused, refuses_accepted}
use Rattle.ob_shared_connection.proofs.lacking.bytes_added_by.Goals as goal

pub returns-in-Some-clause-exact : goal.returns-in-Some-clause-exact
returns-in-Some-clause-exact c message counts accepts =
    let connected = c.args.connection.now in
    let zeros = replicate c.args.n 0 in
    let long = length-replicate c.args.n 0 in
    absurd (refuses_accepted connected (Write (Block zeros)) c.in-Some.field-0 c.stands_for_some_commands.ensures
    (c.in-Some.ensures.first zeros long)
    (accepts_as connected message (Block zeros) counts.short refl
    (counts.counts ∙ ap (λ n. n + connected.unsent.settings.estimate.overhead) (sym long)) accepts))

pub returns-in-None-clause-accepted : goal.returns-in-None-clause-accepted
returns-in-None-clause-accepted c some message counts =
    let connected = c.args.connection.now in
    let zeros = replicate c.args.n 0 in
    let long = length-replicate c.args.n 0 in
    accepts_as connected (Block zeros) message refl counts.short
    (ap (λ n. n + connected.unsent.settings.estimate.overhead) long ∙ sym counts.counts)
    (accepts_unrefused connected (Write (Block zeros)) (c.in-None.ensures.first zeros long))
