use Rattle.std.proofs.Common.{◌≡◌, take}
use Rattle.ob_seq.specs.Pending.{StandsFor}
use Rattle.ob_history.specs.History.{accepted_commands}
use Rattle.ob_history.proofs.recorded.replay.go_on.Given as goal

abbrev pub invariant-loop-index : goal.invariant-loop-index
invariant-loop-index l = record {
  settings : l.buffer.settings ≡ l.fn.buffer.settings;
  stands : StandsFor l.buffer (accepted_commands (take l.index l.records));
}
