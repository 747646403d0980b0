use Rattle.std.proofs.Common.{◌≡◌, ◌<◌, ◌≤◌, length, get_or}
use Rattle.ob_script.specs.Reading.{words_after}
use Rattle.ob_traces.specs.Traces.{behind_lengths}
use Rattle.ob_traces.proofs.traces.read.skip_lengths.Given as goal

abbrev pub invariant-loop-word : goal.invariant-loop-word
invariant-loop-word l = record {
  left : behind_lengths (words_after l.rest) ≡ behind_lengths (words_after l.after);
  space : 0 < length l.rest → get_or l.rest 0 0 ≡ 32;
  within : length l.rest ≤ length l.after;
}

abbrev pub decreases-loop-word : goal.decreases-loop-word
decreases-loop-word l = length l.rest
