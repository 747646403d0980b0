use Rattle.std.proofs.Common.{◌≡◌, sym, ap, ◌∙◌}
use Rattle.ob_seq.specs.Looks.{promise_after}
use Rattle.ob_history.specs.History.{accepted_commands}
use Rattle.ob_shared.proofs.locked.Locked.promise.Goals as goal

pub returns-clause-settled : goal.returns-clause-settled
returns-clause-settled g c = λ outcome.
    let stored = c.self.inside.recorded in
    let state : c.promise.result ≡ promise_after stored.settings (accepted_commands stored.records) c.args.id =
    c.promise.ensures (accepted_commands stored.records) c.buffer.ensures.stands
    ∙ ap (λ settings. promise_after settings (accepted_commands stored.records) c.args.id) c.buffer.ensures.settings in
    let law = c.a_history_tells_each_settled_promise.ensures.told in
    let told = law stored.settings stored.records c.args.id outcome c.buffer.ensures.legal in
    rw (← c.self.view_is) (λ is. told.0 (sym state ∙ is), λ there. state ∙ told.1 there)
