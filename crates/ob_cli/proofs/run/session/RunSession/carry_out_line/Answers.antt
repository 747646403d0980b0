use Rattle.std.proofs.Common.{◌∙◌, ◌++◌, ap, string_bytes}
use Rattle.ob_history.specs.History.{History}
use Rattle.ob_cli.specs.Run.{call_text}
use Rattle.ob_script.proofs.Results.{OnOk-follows}
use Rattle.ob_cli.proofs.RunLines.{block-told}
use Rattle.ob_cli.proofs.run.session.RunSession.carry_out_line.Goals as goal

pub returns-in_ok-command-in-Block-clause-text : goal.returns-in_ok-command-in-Block-clause-text
returns-in_ok-command-in-Block-clause-text c =
    let history = c.args.self.now.recorded in
    let command = c.in_ok-command-in-Block.command in
    let made = c.in_ok-command-in-Block.ensures in
    let old = string_bytes c.args.text.now in
    OnOk-follows c.trace_command.result (λ told.
    block-told history c.in-Block.size command c.args.line old (string_bytes c.trace_command.new.text)
    made.value c.in-Block.is (told ∙ ap (λ (seen : History). old ++ call_text seen command) made.same))
    c.trace_command.ensures.text
