use Rattle.std.proofs.Common.{◌≡◌, ◌+◌, ◌<◌, ◌≤◌, count_by, length, get_or}
use Rattle.std.specs.List.{list_all}
use Rattle.std.specs.Prelude.{is_some}
use Rattle.ob_script.specs.Reading.{words_after}
use Rattle.ob_traces.specs.Traces.{is_cancelled, is_failed, is_success, outcome_of}
use Rattle.ob_traces.proofs.traces.read.settled.Given as goal

abbrev pub invariant-loop-word : goal.invariant-loop-word
invariant-loop-word l = record {
  each : list_all (λ word. is_some (outcome_of word)) (words_after l.after)
      ≡ list_all (λ word. is_some (outcome_of word)) (words_after l.rest);
  success : count_by (λ word. is_success (outcome_of word)) (words_after l.after)
      ≡ l.settled.success + count_by (λ word. is_success (outcome_of word)) (words_after l.rest);
  failed : count_by (λ word. is_failed (outcome_of word)) (words_after l.after)
      ≡ l.settled.failed + count_by (λ word. is_failed (outcome_of word)) (words_after l.rest);
  cancelled : count_by (λ word. is_cancelled (outcome_of word)) (words_after l.after)
      ≡ l.settled.cancelled + count_by (λ word. is_cancelled (outcome_of word)) (words_after l.rest);
  space : 0 < length l.rest → get_or l.rest 0 0 ≡ 32;
  few : l.settled.success + l.settled.failed + l.settled.cancelled + length l.rest ≤ length l.after;
}

abbrev pub decreases-loop-word : goal.decreases-loop-word
decreases-loop-word l = length l.rest
