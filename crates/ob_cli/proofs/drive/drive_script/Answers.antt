use Rattle.std.proofs.Common.{rules, subst}
use Rattle.ob_history.specs.History.{IsLegal}
use Rattle.ob_cli.specs.Drive.{drive_grammar}
use Rattle.ob_cli.proofs.DriveLines.{unwritten}
use Rattle.ob_cli.proofs.drive.drive_script.Goals as goal

-- Named for the must-fail edits that fail here: `search` finds it unasked (CONTRIBUTING.md).
pub returns-in-Ok-clause-report : goal.returns-in-Ok-clause-report
returns-in-Ok-clause-report g c = search rules

pub returns-in-Ok-clause-legal : goal.returns-in-Ok-clause-legal
returns-in-Ok-clause-legal g c =
    let told = c.in_ok-driven.ensures.told in
    subst (λ settings. IsLegal settings c.in_ok-driven.driven.report.recorded.records) told.settings told.legal

pub returns-in-Err-clause-through : goal.returns-in-Err-clause-through
returns-in-Err-clause-through g c =
    unwritten drive_grammar (g.R.Read.remaining c.args.reader.now) (g.R.Read.remaining c.read_script.new.reader)
    c.in-Err.fault c.in-Err.ensures.faults
