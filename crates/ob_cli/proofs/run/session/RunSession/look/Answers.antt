use Rattle.std.proofs.Common.{◌∙◌, ap}
use Rattle.ob_seq.specs.Looks.{look_after}
use Rattle.ob_history.specs.History.{accepted_commands}
use Rattle.ob_cli.proofs.run.session.RunSession.look.Goals as goal

pub returns : goal.returns
returns c =
    let commands = accepted_commands c.args.self.now.recorded.records in
    c.look.ensures commands c.buffer.ensures.stands
    ∙ ap (λ settings. look_after settings commands) c.buffer.ensures.settings
