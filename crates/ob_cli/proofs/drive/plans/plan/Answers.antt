use Rattle.std.proofs.Common.{◌∙◌, ap}
use Rattle.std.proofs.lemmas.List.{take_all}
use Rattle.ob_cli.specs.Drive.{plan_of}
use Rattle.ob_cli.proofs.drive.plans.plan.Goals as goal

pub returns : goal.returns
returns c =
    c.loop-line.invariant
    ∙ ap (λ lines. plan_of lines c.args.writer)
    (take_all c.loop-line.line-index c.args.lines.now c.loop-line-test.false)
