use Rattle.std.proofs.Common.{◌≡◌, ℕ, ◌+◌, ◌<◌, ◌≤◌, length, take, drop, get_or}
use Rattle.ob_script.specs.Reading.{words_after, numbers_in}
use Rattle.ob_script.proofs.Numbers.{behind}
use Rattle.ob_script.proofs.reading.numbers.read_numbers.Given as goal

abbrev pub invariant-loop-place : goal.invariant-loop-place
invariant-loop-place l = record {
  so_far : numbers_in l.ranges (words_after l.after)
      ≡ behind (take l.place l.numbers) (numbers_in (drop l.place l.ranges) (words_after l.rest));
  space : 0 < length l.rest → get_or l.rest 0 0 ≡ 32;
  left : l.place + length (words_after l.rest) ≡ length l.ranges;
  array : length l.numbers ≡ 3;
  zeros : (k : ℕ) → l.place ≤ k → get_or l.numbers k 0 ≡ 0;
}
