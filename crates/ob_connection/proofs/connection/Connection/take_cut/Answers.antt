use Rattle.ob_connection.proofs.Words.{◌+◌, arith, connected_of, Connected, sym, ap, ◌∙◌, subst}
use Rattle.ob_seq.specs.Steps.Commands.{bytes_removed}
use Rattle.ob_connection.specs.Inside.{IsCut}
use Rattle.ob_connection.proofs.Steps.{becomes_roomed}
use Rattle.ob_connection.proofs.Obeyed.{ids_within}
use Rattle.ob_connection.proofs.Taking.{cut_becomes, cut_open, cut_stands}
use Rattle.ob_connection.proofs.connection.Connection.take_cut.Goals as goal

pub invariant_of-self : goal.invariant_of-self
invariant_of-self c =
    cut_stands c.args.cut (subst (λ (one : Connected). IsCut one.unsent c.args.cut) (sym c.self.view_is) c.requires.found)
    c.take_cut.ensures (ap (λ (one : Connected). one.unsent.closed) c.self.view_is ∙ c.requires.open) c.self.invariant

pub returns-clause-becomes : goal.returns-clause-becomes
returns-clause-becomes c =
    let found = subst (λ (one : Connected). IsCut one.unsent c.args.cut) (sym c.self.view_is) c.requires.found in
    rw (← c.self.view_is)
    (becomes_roomed (bytes_removed c.args.cut) (record { unsent = c.take_cut.new.self; gone = c.self.inside.gone + c.args.cut.whole })
    c.give_back.ensures.same (cut_becomes c.args.cut found c.take_cut.ensures))

pub returns-clause-still_open : goal.returns-clause-still_open
returns-clause-still_open c =
    ap (λ (one : Connected). one.unsent.closed) c.give_back.ensures.same
    ∙ cut_open (connected_of c.self.inside) c.args.cut c.take_cut.ensures
    (ap (λ (one : Connected). one.unsent.closed) c.self.view_is ∙ c.requires.open)

pub overflow_add-self : goal.overflow_add-self
overflow_add-self c =
    let found = subst (λ (one : Connected). IsCut one.unsent c.args.cut) (sym c.self.view_is) c.requires.found in
    omega (arith, found.whole, ids_within c.self.invariant)
