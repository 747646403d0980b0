use Rattle.ob_cli.proofs.drive.more.push_time.Goals as goal

pub returns-in-Some : goal.returns-in-Some
returns-in-Some c = rw c.in-Some.is c.push_number_line.ensures
