use Rattle.ob_connection.proofs.Words.{◌+◌, Ok, Err, None, Some, arith}
use Rattle.std.proofs.lemmas.Result.{err_from_is_err_and}
use Rattle.ob_seq.specs.Kept.{removal}
use Rattle.ob_connection.proofs.Steps.{steps_roomed}
use Rattle.ob_connection.proofs.Obeyed.{ids_within, obeys, stays}
use Rattle.ob_connection.proofs.Taking.{removes}
use Rattle.ob_connection.proofs.connection.Connection.remove_as.Goals as goal

pub invariant_of-self : goal.invariant_of-self
invariant_of-self c =
    stays (removal c.args.outcome)
    (removes c.args.outcome c.requires (Err c.in_err-front.field-0.0) c.in_err-front.ensures.makes c.in_err-front.ensures.refused)
    c.self.invariant

pub returns-in_err-front-clause-obeys : goal.returns-in_err-front-clause-obeys
returns-in_err-front-clause-obeys c =
    let err = err_from_is_err_and c.from_residual.result c.from_residual.ensures.1 in
    rw (err.1, err.2, ← c.self.view_is) (obeys (removal c.args.outcome)
    (removes c.args.outcome c.requires (Err c.in_err-front.field-0.0) c.in_err-front.ensures.makes c.in_err-front.ensures.refused))

pub invariant_of-self-in_default : goal.invariant_of-self-in_default
invariant_of-self-in_default c =
    stays (removal c.args.outcome)
    (removes c.args.outcome c.requires (Ok None)
    (λ past outcome. rw c.in_default.is at (c.in_ok-front.ensures.makes past outcome)) tt) c.self.invariant

pub returns-in_default-clause-obeys : goal.returns-in_default-clause-obeys
returns-in_default-clause-obeys c =
    rw (← c.self.view_is) (obeys (removal c.args.outcome)
    (removes c.args.outcome c.requires (Ok None)
    (λ past outcome. rw c.in_default.is at (c.in_ok-front.ensures.makes past outcome)) tt))

pub invariant_of-self-2 : goal.invariant_of-self-2
invariant_of-self-2 c =
    stays (removal c.args.outcome)
    (removes c.args.outcome c.requires (Ok (Some c.in-Some.front))
    (λ past outcome. rw c.in-Some.is at (c.in_ok-front.ensures.makes past outcome)) tt) c.self.invariant

pub returns-clause-obeys : goal.returns-clause-obeys
returns-clause-obeys c =
    rw (c.then_some.ensures, ← c.self.view_is) (obeys (removal c.args.outcome)
    (steps_roomed (record { unsent = c.remove.new.self; gone = c.self.inside.gone + 1 }) c.give_back.ensures.same
    (removes c.args.outcome c.requires (Ok (Some c.in-Some.front))
    (λ past outcome. rw c.in-Some.is at (c.in_ok-front.ensures.makes past outcome)) tt)))

pub overflow_add-self : goal.overflow_add-self
overflow_add-self c =
    let fewer = rw c.in-Some.is at c.in_ok-front.ensures.fewer in omega (arith, fewer, ids_within c.self.invariant)
