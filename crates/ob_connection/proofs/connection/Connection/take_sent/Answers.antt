use Rattle.ob_connection.proofs.Words.{◌≡◌, ◌+◌, sym, ap, ◌∙◌, subst, Past, Pending, held}
use Rattle.ob_connection.proofs.Words.{Becomes, Connected, connected_of, change_between}
use Rattle.std.proofs.lemmas.Result.{err_from_is_err_and}
use Rattle.ob_types.specs.declared.command.Command.TheVariants.{RemoveBytes}
use Rattle.ob_types.specs.declared.promise.Outcome.TheVariants.{Success}
use Rattle.ob_seq.specs.Looks.{blocks_left}
use Rattle.ob_seq.specs.Steps.Commands.{bytes_removed, bytes_reply, bytes_step, whole_cut}
use Rattle.ob_seq.specs.declared.contents.cut.Cut.{Cut}
use Rattle.ob_connection.specs.Obeying.{taken_reply}
use Rattle.ob_connection.proofs.Steps.{same_change, closed, refused, taken}
use Rattle.ob_connection.proofs.Obeyed.{obeys}
use Rattle.ob_seq.proofs.Inside.LetGo.{a_cut, no_cut}
use Rattle.ob_connection.proofs.Settling.{line_replied}
use Rattle.ob_connection.proofs.Taking.{cut_found}
use Rattle.ob_connection.proofs.connection.Connection.take_sent.Goals as goal

pub returns-in_err-ask_open-clause-obeys : goal.returns-in_err-ask_open-clause-obeys
returns-in_err-ask_open-clause-obeys c =
    let err = err_from_is_err_and c.from_residual.result c.from_residual.ensures.1 in
    rw (err.1, err.2, c.in_err-ask_open.ensures.refusal) (obeys (RemoveBytes c.args.n) (closed (bytes_step c.args.n) taken_reply c.in_err-ask_open.ensures.closed))

pub returns-in_default-clause-obeys : goal.returns-in_default-clause-obeys
returns-in_default-clause-obeys c =
    rw (← c.self.view_is) (obeys (RemoveBytes c.args.n) (refused (bytes_step c.args.n) taken_reply
    (ap (λ (one : Connected). one.unsent.closed) c.self.view_is ∙ c.in_ok-ask_open.ensures.open) _
    (λ same. absurd (cc)) (λ past. no_cut c.args.n (held past) c.in_default.ensures.value)))

pub take_cut-requires-clause-found : goal.take_cut-requires-clause-found
take_cut-requires-clause-found c =
    let found = c.in-Some.ensures in cut_found c.self.view_is c.args.n found.value found.within found.rest

pub returns-clause-obeys : goal.returns-clause-obeys
returns-clause-obeys c =
    let cut = c.in-Some.cut in
    let n = c.args.n in
    let inside = connected_of c.self.inside in
    let becomes : Becomes (bytes_removed cut) inside c.take_cut.new.self =
    subst (λ one. Becomes (bytes_removed cut) one c.take_cut.new.self) (sym c.self.view_is) c.take_cut.ensures.becomes in
    let found : (past : Past inside) → cut ≡ whole_cut n (blocks_left (held past).line) =
    λ past. (a_cut n (held past) c.in-Some.ensures.value).1 in
    let end : c.take_cut.new.self.gone ≡ c.self.inside.gone + cut.whole =
    c.take_cut.ensures.gone ∙ ap (λ (one : Connected). one.gone + cut.whole) (sym c.self.view_is) in
    rw (← c.self.view_is) (obeys (RemoveBytes n) (taken (bytes_step n) taken_reply
    (ap (λ (one : Connected). one.unsent.closed) c.self.view_is ∙ c.in_ok-ask_open.ensures.open)
    c.taken_since.result
    (λ past. (a_cut n (held past) c.in-Some.ensures.value).0)
    (λ past. ap (taken_reply (held past).promises) c.taken_since.ensures
    ∙ line_replied past c.take_cut.new.self.gone cut.whole Success _
    (change_between (held past).word (bytes_removed cut (held past)).word) end c.in-Some.ensures.within
    (same_change c.word-before.ensures (ap (λ (one : Pending). one.word) (becomes past).1))
    ∙ ap (λ (one : Cut). bytes_reply one (held past)) (found past))
    (λ past. ((becomes past).0, (becomes past).1 ∙ ap (λ (one : Cut). bytes_removed one (held past)) (found past)))))
