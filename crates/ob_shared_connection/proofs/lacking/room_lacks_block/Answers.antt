use Rattle.std.proofs.Common.{ℕ, ◌∷◌, [], Option, sym, subst}
use Rattle.ob_types.specs.declared.command.Command.TheVariants.{Write}
use Rattle.ob_shared_connection.specs.Values.{PassesRoom}
use Rattle.ob_shared_connection.proofs.Accepting.{passes_room}
use Rattle.ob_shared_connection.proofs.lacking.room_lacks_block.Goals as goal

pub returns-in-Some-clause-lacks : goal.returns-in-Some-clause-lacks
returns-in-Some-clause-lacks c is message counts =
    let told = c.bytes_added_by.ensures in
    let accepts = told.accepted (c.passes.ensures.some is) message counts in
    subst (λ (room : Option ℕ). PassesRoom c.args.connection.now (Write message ∷ []) room) (sym c.in-Some.is)
    (passes_room c.args.connection.now message c.bytes_added_by.result c.in-Some.room accepts
    (told.exact message counts accepts) (c.passes.ensures.more is))
