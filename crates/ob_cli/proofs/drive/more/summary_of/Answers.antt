use Rattle.std.proofs.Common.{◌∙◌, subst}
use Rattle.std.specs.Prelude.{IfOk}
use Rattle.ob_traces.specs.Summary.{Summarizes}
use Rattle.ob_cli.proofs.drive.more.summary_of.Goals as goal

pub returns : goal.returns
returns c =
    subst (λ lines. IfOk c.make_summary.result (λ summary. Summarizes lines summary))
    (c.deref.ensures.value ∙ c.in_ok-lines.ensures.lines) c.make_summary.ensures
