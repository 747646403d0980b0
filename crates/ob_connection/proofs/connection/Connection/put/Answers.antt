use Rattle.ob_connection.proofs.Words.{◌≡◌, sym, ap, ◌∙◌, arith, nat_tests, subst, connected_of}
use Rattle.ob_connection.proofs.Words.{accepted_writes, Ok, Connected}
use Rattle.ob_types.specs.declared.command.Command.TheVariants.{Write}
use Rattle.ob_connection.specs.Inside.{admission}
use Rattle.ob_connection.proofs.Asking.{bytes_left, wanting_moves, written_moves}
use Rattle.ob_connection.proofs.Obeyed.{obeys, stays}
use Rattle.ob_connection.proofs.connection.Connection.put.Goals as goal

pub add-requires : goal.add-requires
add-requires c =
    let left = bytes_left c.args.self.now c.args.message (sym c.requires) in
    let same = c.self.view_is in
    grind (arith, nat_tests)

pub returns-in-Err-clause-obeys : goal.returns-in-Err-clause-obeys
returns-in-Err-clause-obeys c =
    let there : Ok c.args.size ≡ admission (connected_of c.self.inside) c.args.message =
    subst (λ (one : Connected). Ok c.args.size ≡ admission one c.args.message) (sym c.self.view_is) (sym c.requires) in
    rw (c.in-Err.ensures.err, ← c.self.view_is)
    (obeys (Write c.args.message) (wanting_moves (connected_of c.self.inside) c.args.message there))

pub invariant_of-self-2 : goal.invariant_of-self-2
invariant_of-self-2 c =
    let there : Ok c.args.size ≡ admission (connected_of c.self.inside) c.args.message =
    subst (λ (one : Connected). Ok c.args.size ≡ admission one c.args.message) (sym c.self.view_is) (sym c.requires) in
    stays (Write c.args.message) (written_moves c.args.message c.add.new.self there c.in-Ok.ensures.ok
    (c.accepted_writes-id.ensures.count ∙ ap accepted_writes (sym c.self.view_is)) c.in-Ok.ensures.change) c.self.invariant

pub returns-clause-obeys : goal.returns-clause-obeys
returns-clause-obeys c =
    let there : Ok c.args.size ≡ admission (connected_of c.self.inside) c.args.message =
    subst (λ (one : Connected). Ok c.args.size ≡ admission one c.args.message) (sym c.self.view_is) (sym c.requires) in
    rw (← c.self.view_is) (obeys (Write c.args.message) (written_moves c.args.message c.add.new.self there c.in-Ok.ensures.ok
    (c.accepted_writes-id.ensures.count ∙ ap accepted_writes (sym c.self.view_is)) c.in-Ok.ensures.change))
