use Rattle.std.proofs.Common.{◌≡◌, length, take}
use Rattle.ob_seq.specs.Pending.{StandsFor}
use Rattle.ob_history.specs.History.{accepted_commands}
use Rattle.ob_cli.specs.More.{lines_of}
use Rattle.ob_cli.specs.Run.{first_history}
use Rattle.ob_cli.proofs.drive.more.make_lines.Given as goal

abbrev pub invariant-loop-index : goal.invariant-loop-index
invariant-loop-index l = record {
  settings : l.buffer.settings ≡ (first_history l.fn.options).settings;
  stands : StandsFor l.buffer (accepted_commands (take l.index l.records));
  lines : l.lines.items ≡ lines_of (first_history l.fn.options).settings (take l.index l.records);
  count : length l.lines.items ≡ l.index;
}
