use Rattle.std.proofs.Common.{◌≡◌, ◌≤◌, ◌++◌, drop, take}
use Rattle.std.specs.List.{concat}
use Rattle.std.specs.Prelude.{vec_len}
use Rattle.ob_transport.proofs.script.push_beginning.Given as goal

abbrev pub invariant-loop-block : goal.invariant-loop-block
invariant-loop-block l =
    (l.bytes.items ++ take l.left (concat (drop l.block-index l.blocks)) ≡ l.fn.bytes.items ++ take l.fn.most (concat l.fn.blocks))
    × (take (vec_len l.fn.bytes) l.bytes.items ≡ l.fn.bytes.items) × (vec_len l.fn.bytes ≤ vec_len l.bytes)
