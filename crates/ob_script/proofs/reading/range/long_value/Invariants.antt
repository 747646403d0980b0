use Rattle.std.proofs.Common.{◌≡◌, ◌<◌, ◌^◌, take}
use Rattle.std.specs.Str.Parse.{digits_value}
use Rattle.ob_script.proofs.reading.range.long_value.Given as goal

abbrev pub invariant-loop-byte : goal.invariant-loop-byte
invariant-loop-byte l = record {
  so_far : l.value ≡ digits_value 10 (take l.byte-index l.word);
  fits : l.value < 2 ^ 64;
}
