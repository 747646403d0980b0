use Rattle.std.proofs.Common.{◌≡◌, ap, ◌∙◌}
use Rattle.ob_seq.specs.Looks.{look_after}
use Rattle.ob_seq.specs.declared.look.Look.{Look}
use Rattle.ob_history.specs.History.{accepted_commands, History, glance_after}
use Rattle.ob_history.specs.Inside.{settings_of}
use Rattle.ob_history.specs.declared.glance.Glance.{Glance}
use Rattle.ob_history.proofs.recorded.Recorded.glance.Goals as goal

-- what a look shows at a glance
abbrev glance_of : Look → Glance
glance_of look = record { word = look.word; total = look.total }

pub returns : goal.returns
returns c =
    let inside = c.self.inside in
    let before = accepted_commands inside.records.items in
    let look : c.look-look.result ≡ look_after (settings_of inside) before =
    c.look-look.ensures before c.self.invariant.stands
    ∙ ap (λ settings. look_after settings before) c.self.invariant.settings in
    ap glance_of look
    ∙ ap (λ (history : History). glance_after history.settings history.records) c.self.view_is
