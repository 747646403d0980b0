use Rattle.std.proofs.Common.{◌≡◌, ◌≤◌, take}
use Rattle.std.specs.List.{suffix_len}
use Rattle.ob_traces.specs.Summary.{is_unwritable, unwritable_at, IsTop}
use Rattle.ob_traces.proofs.summing.top.longest_unwritable.Given as goal

abbrev pub invariant-loop-place : goal.invariant-loop-place
invariant-loop-place l = record {
  top : IsTop l.place (unwritable_at l.lines) l.top;
  together : l.together ≡ suffix_len is_unwritable (take l.place l.lines);
  few : l.together ≤ l.place;
}
