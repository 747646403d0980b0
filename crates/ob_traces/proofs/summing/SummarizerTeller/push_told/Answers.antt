use Rattle.std.proofs.Common.{refl}
use Rattle.ob_traces.specs.Summary.{summary_text}
use Rattle.ob_script.proofs.Results.{OnOk-follows}
use Rattle.ob_traces.proofs.summing.SummarizerTeller.push_told.Goals as goal

pub returns : goal.returns
returns c =
    let summary = c.in_ok-make_summary.field-0 in
    OnOk-follows c.push_summary.result
    (λ told. (summary_text summary, (summary, c.in_ok-make_summary.ensures, refl), told)) c.push_summary.ensures
