use Rattle.std.proofs.Common.{◌≡◌, ◌++◌, take, string_bytes}
use Rattle.std.specs.List.{flat_map}
use Rattle.ob_traces.specs.Summary.{refusal_text}
use Rattle.ob_traces.proofs.summing.text.push_refusals.Given as goal

abbrev pub invariant-loop-refusal : goal.invariant-loop-refusal
invariant-loop-refusal l = string_bytes l.text ≡ string_bytes l.initial.text
    ++ flat_map refusal_text (take l.refusal-index l.refusals)
