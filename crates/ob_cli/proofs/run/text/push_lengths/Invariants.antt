use Rattle.std.proofs.Common.{◌≡◌, ◌++◌, take, string_bytes}
use Rattle.std.specs.List.{flat_map}
use Rattle.ob_cli.specs.Run.{length_text}
use Rattle.ob_cli.proofs.run.text.push_lengths.Given as goal

abbrev pub invariant-loop-block : goal.invariant-loop-block
invariant-loop-block l = string_bytes l.text ≡ string_bytes l.initial.text
    ++ flat_map length_text (take l.block-index l.blocks)
