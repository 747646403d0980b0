use Rattle.std.proofs.Common.{ℕ, ◌∷◌, [], Option, sym, subst}
use Rattle.ob_types.specs.declared.command.Command.TheVariants.{Write}
use Rattle.ob_shared_connection.specs.Values.{PassesRoom}
use Rattle.ob_shared_connection.proofs.Accepting.{passes_room}
use Rattle.ob_shared_connection.proofs.lacking.room_lacks.Goals as goal

pub returns-in-Some-clause-lacks : goal.returns-in-Some-clause-lacks
returns-in-Some-clause-lacks c is =
    let told = c.bytes_added.ensures in
    let accepts = told.accepted (c.passes.ensures.some is) in
    subst (λ (room : Option ℕ). PassesRoom c.args.connection.now (Write c.args.message.now ∷ []) room) (sym c.in-Some.is)
    (passes_room c.args.connection.now c.args.message.now c.bytes_added.result c.in-Some.room accepts (told.exact accepts)
    (c.passes.ensures.more is))
