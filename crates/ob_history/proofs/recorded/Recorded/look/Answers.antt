use Rattle.std.proofs.Common.{◌≡◌, length, ap, ◌∙◌, rules}
use Rattle.ob_seq.specs.Looks.{look_after}
use Rattle.ob_history.specs.History.{accepted_commands, seen_now}
use Rattle.ob_history.specs.Inside.{history_of, settings_of}
use Rattle.ob_history.specs.declared.seen.Seen.{Seen}
use Rattle.ob_history.proofs.recorded.Recorded.look.Goals as goal

pub returns : goal.returns
returns c =
    let inside = c.self.inside in
    let before = accepted_commands inside.records.items in
    let place : c.len.result ≡ length inside.records.items = c.len.ensures ∙ inside.records.ok.0 in
    let look : c.look.result ≡ look_after (settings_of inside) before =
    c.look.ensures before c.self.invariant.stands
    ∙ ap (λ settings. look_after settings before) c.self.invariant.settings in
    let seen : Seen = record { place = c.len.result; look = c.look.result } in
    let both : seen ≡ seen_now (history_of inside) = cc in
    record { seen = both ∙ ap seen_now c.self.view_is; bounded = search rules }
