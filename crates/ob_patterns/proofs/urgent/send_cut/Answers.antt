use Rattle.ob_patterns.proofs.Cut.{ends_cut, fails_at_cut, leaves_cut, sends_rest}
use Rattle.ob_patterns.proofs.urgent.send_cut.Goals as goal

pub returns-in-Ok-clause-ended : goal.returns-in-Ok-clause-ended
returns-in-Ok-clause-ended g c =
    let rest = sends_rest c.if-not-is_cut.ensures c.in-Ok.ensures.sends c.in-Ok.ensures.asks in
    ends_cut rest c.next_at_cut.result c.next_at_cut.ensures.none

pub returns-in-Ok-clause-left : goal.returns-in-Ok-clause-left
returns-in-Ok-clause-left g c =
    let rest = sends_rest c.if-not-is_cut.ensures c.in-Ok.ensures.sends c.in-Ok.ensures.asks in
    leaves_cut rest c.next_at_cut.result c.next_at_cut.ensures.cut c.next_at_cut.ensures.next

pub returns-in-Err-Broken-clause-left : goal.returns-in-Err-Broken-clause-left
returns-in-Err-Broken-clause-left g c =
    let fault = c.in-Err-Broken in
    fails_at_cut fault.field-0 fault.error fault.field-0-is fault.ensures.kept c.if-not-is_cut.ensures
    fault.ensures.asks fault.ensures.unsent c.give_up_broken.ensures.given_up
