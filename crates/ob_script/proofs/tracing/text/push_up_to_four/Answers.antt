use Rattle.std.proofs.Common.{arith}
use Rattle.ob_script.proofs.Results.{OnOk-follows}
use Rattle.ob_script.proofs.Digits.{two_more}
use Rattle.ob_script.proofs.tracing.text.push_up_to_four.Goals as goal

pub returns : goal.returns
returns c = OnOk-follows c.push_two.result
    (two_more _ _ _ c.args.number (omega (arith, c.if-number-lt100.false)) (omega (arith, c.requires))
    c.in_ok-push_up_to_two.ensures)
    c.push_two.ensures
