use Rattle.ob_seq.proofs.Words.{RemoveBytes, sym, ◌∙◌, ap, length, whole}
use Rattle.std.specs.Prelude.{Err}
use Rattle.std.proofs.lemmas.Result.{err_from_is_err_and}
use Rattle.ob_seq.specs.Kept.{pending_of}
use Rattle.ob_seq.specs.Outcomes.{Endings}
use Rattle.ob_seq.proofs.Inside.LetGo.{a_cut, no_cut, removal_settles, removes_bytes}
use Rattle.ob_seq.proofs.Simulating.Kept.{kept_fewer, refused, spared, wanted}
use Rattle.ob_seq.proofs.Simulating.Simulated.{obeys}
use Rattle.ob_seq.proofs.buffer.Buffer.remove_bytes.Goals as goal

pub returns-in_default-clause-obeys : goal.returns-in_default-clause-obeys
returns-in_default-clause-obeys c =
    refused (RemoveBytes c.args.n) c.self.view_is (λ same. absurd (cc)) (sym c.is_closed.ensures ∙ c.if-is_closed.false)
    (no_cut c.args.n (pending_of c.self.inside) c.in_default.ensures.value)

pub returns-in_err-settled-clause-obeys : goal.returns-in_err-settled-clause-obeys
returns-in_err-settled-clause-obeys c =
    let now = pending_of c.self.inside in
    let err = err_from_is_err_and c.from_residual.result c.from_residual.ensures.1 in
    wanted (RemoveBytes c.args.n) c.self.view_is (sym c.is_closed.ensures ∙ c.if-is_closed.false)
    (a_cut c.args.n now c.in-Some.ensures.value).0 (err.1 ∙ ap Err err.2)
    (ap (λ (gone : Endings). whole gone.list c.self.inside.contents) c.in_err-settled.ensures.refused)

pub returns-in_err-settled-clause-spares : goal.returns-in_err-settled-clause-spares
returns-in_err-settled-clause-spares c =
    let now = pending_of c.self.inside in
    let many = removal_settles c.self.inside.gone.list c.self.inside.contents c.args.n c.in-Some.ensures.value c.in-Some.ensures.within in
    let err = err_from_is_err_and c.from_residual.result c.from_residual.ensures.1 in
    spared (RemoveBytes c.args.n) c.self.view_is (sym c.is_closed.ensures ∙ c.if-is_closed.false)
    (a_cut c.args.n now c.in-Some.ensures.value).0 (err.1 ∙ ap Err err.2) (ap length many) c.in_err-settled.ensures.frugal

pub invariant_of-self-2 : goal.invariant_of-self-2
invariant_of-self-2 c =
    kept_fewer (RemoveBytes c.args.n) c.in_ok-settled.ensures c.take_cut.ensures.fewer
    (removes_bytes _ _ _ _ (sym c.is_closed.ensures ∙ c.if-is_closed.false) c.args.n c.in-Some.ensures.value c.in-Some.ensures.within
    c.in_ok-settled.ensures c.take_cut.ensures) c.self.invariant

pub returns-clause-obeys : goal.returns-clause-obeys
returns-clause-obeys c =
    rw (c.between.ensures, c.word-before.ensures, c.word.ensures)
    (obeys (RemoveBytes c.args.n) _ (removes_bytes c.self.inside.gone c.let_go.new.gone _ _
    (sym c.is_closed.ensures ∙ c.if-is_closed.false) c.args.n c.in-Some.ensures.value c.in-Some.ensures.within
    c.in_ok-settled.ensures c.take_cut.ensures) c.self.view_is)
