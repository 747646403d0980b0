use Rattle.ob_connection.proofs.Words.{[], ◌≡◌, ap, ◌∙◌, held, whole, Connected}
use Rattle.ob_seq.specs.Steps.Commands.{bytes_removed, whole_cut}
use Rattle.ob_seq.specs.declared.contents.cut.Cut.{Cut}
use Rattle.ob_connection.specs.Inside.{run_of}
use Rattle.ob_seq.proofs.Inside.LetGo.{a_cut}
use Rattle.ob_connection.proofs.Taking.{cut_found}
use Rattle.ob_connection.proofs.connection.Connection.take_bytes.Goals as goal

pub take_cut-requires-clause-found : goal.take_cut-requires-clause-found
take_cut-requires-clause-found c =
    let found = c.in-Some.ensures in cut_found c.self.view_is c.args.n found.value found.within found.rest

pub returns-clause-becomes : goal.returns-clause-becomes
returns-clause-becomes c past =
    let found : c.in-Some.cut ≡ whole_cut c.args.n (run_of c.args.self.now.unsent) =
    (a_cut c.args.n (whole [] c.self.inside.contents) c.in-Some.ensures.value).1
    ∙ ap (λ (one : Connected). whole_cut c.args.n (run_of one.unsent)) c.self.view_is in
    let there = c.take_cut.ensures.becomes past in
    (there.0, there.1 ∙ ap (λ (one : Cut). bytes_removed one (held past)) found)
