use Rattle.std.proofs.Common.{take, length}
use Rattle.ob_cli.specs.Drive.{drive_grammar}
use Rattle.ob_cli.specs.Inside.{HasKept}
use Rattle.ob_script.specs.Inside.{StandsAt}
use Rattle.ob_script.specs.Reading.{script_lines}
use Rattle.ob_cli.proofs.drive.read_lines.Given as goal

abbrev pub invariant-loop-cursor : goal.invariant-loop-cursor
invariant-loop-cursor l = record {
  kept : HasKept l.session (take l.cursor.count (script_lines drive_grammar l.fn.script.items));
  stands : StandsAt drive_grammar l.fn.script.items l.cursor.count l.cursor.rest;
}

abbrev pub decreases-loop-cursor : goal.decreases-loop-cursor
decreases-loop-cursor l = length l.cursor.rest
