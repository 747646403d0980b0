use Rattle.ob_seq.proofs.Words.{◌≡◌, Close, sym, ◌∙◌, ap, arith, length, refl, whole}
use Rattle.std.specs.Prelude.{Err}
use Rattle.std.proofs.lemmas.Result.{err_from_is_err_and}
use Rattle.ob_seq.specs.Kept.{pending_of}
use Rattle.ob_seq.specs.Outcomes.{Endings}
use Rattle.ob_seq.proofs.Inside.LetGo.{closes, closing_settles, flushed_left, none_left}
use Rattle.ob_seq.proofs.Inside.Rooms.{line_there}
use Rattle.ob_seq.proofs.Simulating.Kept.{kept_fewer, refused, spared, wanted}
use Rattle.ob_seq.proofs.Simulating.Simulated.{obeys}
use Rattle.ob_seq.proofs.buffer.Buffer.close.Goals as goal

pub returns-then-line_count-gt0-clause-obeys : goal.returns-then-line_count-gt0-clause-obeys
returns-then-line_count-gt0-clause-obeys c =
    let seen = line_there c.self.inside.gone.list c.self.inside.contents refl in
    refused (Close c.args.cause) c.self.view_is (λ same. absurd (cc)) (sym c.is_closed.ensures ∙ c.if-is_closed.false)
    (flushed_left c.args.cause (pending_of c.self.inside)
    (omega (arith, seen, c.line_count.ensures, c.if-line_count-gt0.true)))

pub returns-in_err-settled-clause-obeys : goal.returns-in_err-settled-clause-obeys
returns-in_err-settled-clause-obeys c =
    let seen = line_there c.self.inside.gone.list c.self.inside.contents refl in
    let err = err_from_is_err_and c.from_residual.result c.from_residual.ensures.1 in
    wanted (Close c.args.cause) c.self.view_is (sym c.is_closed.ensures ∙ c.if-is_closed.false)
    (none_left c.args.cause (pending_of c.self.inside)
    (omega (arith, seen, c.line_count.ensures, c.if-line_count-gt0.false))) (err.1 ∙ ap Err err.2)
    (ap (λ (gone : Endings). whole gone.list c.self.inside.contents) c.in_err-settled.ensures.refused)

pub returns-in_err-settled-clause-spares : goal.returns-in_err-settled-clause-spares
returns-in_err-settled-clause-spares c =
    let old = c.self.inside.contents in
    let none : length old.line ≡ 0 = omega (arith, c.line_count.ensures, c.if-line_count-gt0.false) in
    let many = closing_settles c.self.inside.gone.list old c.args.cause none c.count-count.ensures in
    let err = err_from_is_err_and c.from_residual.result c.from_residual.ensures.1 in
    spared (Close c.args.cause) c.self.view_is (sym c.is_closed.ensures ∙ c.if-is_closed.false)
    (none_left c.args.cause (pending_of c.self.inside) (line_there c.self.inside.gone.list old refl ∙ none))
    (err.1 ∙ ap Err err.2) (ap length many) c.in_err-settled.ensures.frugal

pub invariant_of-self-2 : goal.invariant_of-self-2
invariant_of-self-2 c =
    let none : length c.self.inside.contents.line ≡ 0 = omega (arith, c.line_count.ensures, c.if-line_count-gt0.false) in
    kept_fewer (Close c.args.cause) c.in_ok-settled.ensures (omega (arith, c.shut.ensures.none, c.count-count.ensures))
    (closes _ _ _ c.shut.new.self (sym c.is_closed.ensures ∙ c.if-is_closed.false) c.args.cause none c.count-count.ensures
    c.in_ok-settled.ensures c.shut.ensures.closed) c.self.invariant

pub returns-clause-obeys : goal.returns-clause-obeys
returns-clause-obeys c =
    let none : length c.self.inside.contents.line ≡ 0 = omega (arith, c.line_count.ensures, c.if-line_count-gt0.false) in
    obeys (Close c.args.cause) _ (closes c.self.inside.gone c.let_go.new.gone _ c.shut.new.self
    (sym c.is_closed.ensures ∙ c.if-is_closed.false) c.args.cause none c.count-count.ensures
    c.in_ok-settled.ensures c.shut.ensures.closed) c.self.view_is
