use Rattle.ob_seq.proofs.Words.{◌<◌, length, length-map, map, sym, ap, ◌∙◌, arith, Pending, Outcome, PromiseState}
use Rattle.ob_seq.proofs.Words.{Settled, Success, Waiting, states_of}
use Rattle.std.proofs.Math.ListN.{get_or-append}
use Rattle.std.proofs.lemmas.List.{get_or-map}
use Rattle.ob_seq.specs.Steps.Step.{state_at}
use Rattle.ob_seq.proofs.buffer.Buffer.state_at.Goals as goal

pub returns-then-id-gone : goal.returns-then-id-gone
returns-then-id-gone c =
    let inside = c.self.inside in
    let id = c.args.id in
    let gone = inside.gone.list in
    let settled = map {A = Outcome} {B = PromiseState} (λ outcome. Settled outcome) gone in
    let some : id < length gone = omega (arith, c.if-id-gone.true, c.len-gone.ensures) in
    let all = length-map gone (λ outcome. Settled outcome) in
    ap (λ outcome. Settled outcome) (c.at.ensures Success)
    ∙ sym (get_or-append settled (states_of inside.contents) Waiting id (omega arith)
    ∙ get_or-map (λ (outcome : Outcome). Settled outcome) gone id Success Waiting some)
    ∙ ap (λ (held : Pending). state_at held id) c.self.view_is
