use Rattle.ob_seq.proofs.Words.{◌≡◌, arith, Settings}
use Rattle.ob_seq.proofs.Inside.Fields.{line_count}
use Rattle.ob_seq.proofs.Inside.States.{shut_is}
use Rattle.ob_seq.proofs.contents.Contents.shut.Goals as goal

pub returns-clause-closed : goal.returns-clause-closed
returns-clause-closed c gone cause =
    let inside = c.self.inside in
    let settings : Settings = record { marks = inside.opened; estimate = inside.estimate } in
    let count = line_count c.args.self.now inside c.self.view_is c.self.invariant in
    let nothing : inside.flushed ≡ 0 = omega (arith, c.requires) in
    rw (← c.self.view_is, nothing, c.clear.ensures.items)
    (shut_is gone settings inside.marks inside.closed cause inside.entries.items inside.word)
