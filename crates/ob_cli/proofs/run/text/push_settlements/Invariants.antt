use Rattle.std.proofs.Common.{◌≡◌, ◌++◌, take, string_bytes}
use Rattle.std.specs.List.{flat_map}
use Rattle.ob_cli.specs.Run.{settlement_text}
use Rattle.ob_cli.proofs.run.text.push_settlements.Given as goal

abbrev pub invariant-loop-id : goal.invariant-loop-id
invariant-loop-id l = string_bytes l.text ≡ string_bytes l.initial.text
    ++ flat_map settlement_text (take l.id-index l.settled)
